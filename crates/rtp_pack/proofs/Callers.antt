-- What a layer above may cite of words and octets: the laws, as lemmas.
use Rattle.std.proofs.Common.{◌≡◌, ◌+◌, ◌*◌, ◌/◌, ◌%◌, ◌^◌, ◌<◌, ℕ, zero, suc, List, [], ◌∷◌, length, slice_index, refl}
use Rattle.std.proofs.Common.{sym, ap, subst, ◌∙◌, arith}
use Rattle.std.proofs.Math.Nat.{mul-div_cancel_left}
use Rattle.std.proofs.lemmas.Nat.{mod_below, pow_pos}
use Rattle.std.proofs.lemmas.List.Elements.{All-nil, All-cons, All-head, All-tail}
use Rattle.std.specs.List.{All}
use Rattle.std.specs.Int.{bytes_low_first}
use Rattle.byteorder.specs.Endian.{little_number}
use Rattle.byteorder.specs.Numbers.{little_number-reads_back, length-bytes_low_first}
use Rattle.std.proofs.lemmas.List.{append-nil}
use Rattle.rtp_pack.specs.Payload.{IsPayload, payload_number, octets_of, words_of, words_from, whole_words_of}
use Rattle.rtp_pack.specs.Laws.{ReadsBack, WordsAreCounted, WordsFit, OctetsAreWords, WordsAreOctets}
use Rattle.rtp_pack.proofs.Numbers.{number-front, little-front, octets-little, pow-octets, number-lt}
use Rattle.rtp_pack.proofs.WordsLeft.{words_from-first, number-back}

-- the words of a payload are those that were packed into it
pub reads_back : ReadsBack
unfolding words_of octets_of
reads_back k ws size payload =
    let n = k * length ws / 8 in
    let octets = bytes_low_first 0 n (payload_number k ws) in
    let eight : 8 * n ≡ k * length ws = omega (arith, payload.whole) in
    let fits : payload_number k ws < 256 ^ n
    = rw (pow-octets n ∙ ap (λ (m : ℕ). 2 ^ m) eight) (number-lt k ws payload.each) in
    let back : little_number n octets ≡ payload_number k ws
    = ap (little_number n) (sym (append-nil octets)) ∙ little_number-reads_back n (payload_number k ws) [] fits in
    let count : 8 * n / k ≡ length ws
    = ap (λ (m : ℕ). m / k) eight ∙ mul-div_cancel_left (length ws) (omega (arith, size)) in
    rw (length-bytes_low_first 0 n (payload_number k ws), back, count) (number-back k ws payload.each)

-- the words of a number of words are that many
length-words_from : (k i count n : ℕ) → length (words_from k i count n) ≡ count
length-words_from k i zero n = refl
length-words_from k i (suc count) n = ap (λ (m : ℕ). suc m) (length-words_from k (suc i) count n)

-- octets give as many words as fit whole into their bits
pub words_are_counted : WordsAreCounted
unfolding words_of
words_are_counted k octets =
    length-words_from k 0 (whole_words_of k (length octets)) (little_number (length octets) octets)

-- each word of a number has k bits
words_from-fit : (k i count n : ℕ) → All (λ w. w < 2 ^ k) (words_from k i count n)
words_from-fit k i zero n = All-nil (λ w. w < 2 ^ k)
words_from-fit k i (suc count) n =
    let fits = mod_below (n / 2 ^ (k * i)) (2 ^ k) (pow_pos k) in
    All-cons (λ w. w < 2 ^ k) (n / 2 ^ (k * i) % 2 ^ k) (words_from k (suc i) count n) fits
    (words_from-fit k (suc i) count n)

-- each word of octets has k bits
pub words_fit : WordsFit
unfolding words_of
words_fit k octets = words_from-fit k 0 (whole_words_of k (length octets)) (little_number (length octets) octets)

-- the number of octets gives them back as words of 8 bits
eight_bit_words : (octets : List ℕ) → All (λ octet. octet < 256) octets
    → words_from 8 0 (length octets) (little_number (length octets) octets) ≡ octets
eight_bit_words [] each = refl
eight_bit_words (x ∷ xs) each =
    let octet : x < 256 = All-head (λ octet. octet < 256) x xs each in
    let n = little_number (length xs) xs in
    let low : (x + 256 * n) % 2 ^ 8 ≡ x = omega arith in
    let high : (x + 256 * n) / 2 ^ 8 ≡ n = omega arith in
    let behind = eight_bit_words xs (All-tail (λ octet. octet < 256) x xs each) in
    rw (little-front x xs, words_from-first 8 (length xs) (x + 256 * n), low, high, behind) refl

-- the words of 8 bits in octets are the octets themselves
pub octets_are_words : OctetsAreWords
unfolding words_of
octets_are_words octets each = grind (arith, eight_bit_words octets each)

-- words of 8 bits make the number of these octets
eight_bit_number : (words : List ℕ) → payload_number 8 words ≡ little_number (length words) words
eight_bit_number [] = refl
eight_bit_number (w ∷ words) = grind (arith, number-front 8 w words, little-front w words, eight_bit_number words)

-- an item of a list of octets, also past its end, is below 256
octet-at : (xs : List ℕ) → All (λ x. x < 256) xs → (i : ℕ) → slice_index xs i < 256
octet-at [] each i = omega arith
octet-at (x ∷ xs) each zero = All-head (λ x. x < 256) x xs each
octet-at (x ∷ xs) each (suc i) = octet-at xs (All-tail (λ x. x < 256) x xs each) i

-- words of 8 bits are packed as they are
pub words_are_octets : WordsAreOctets
unfolding octets_of
words_are_octets words each = grind (arith, eight_bit_number words, octets-little words (octet-at words each))

-- a payload of words of 8 bits is the words themselves
pub octets_of-eight : (k : ℕ) (words : List ℕ) → k ≡ 8 → IsPayload k words → octets_of k words ≡ words
octets_of-eight k words e payload =
    let Fits : ℕ → Type 0 = λ n. All (λ w. w < 2 ^ n) words in
    let each : All (λ w. w < 256) words = subst Fits e payload.each in
    ap (λ (n : ℕ). octets_of n words) e ∙ words_are_octets words each
