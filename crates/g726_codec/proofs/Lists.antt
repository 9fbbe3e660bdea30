-- The words of a list of octets and the octets of a list of words.
use Rattle.std.proofs.Common.{◌≡◌, refl, ap, sym, ◌∙◌, ℕ, suc, ◌-◌, ◌^◌, ◌<◌, ℤ, Bool, true, false, cond}
use Rattle.std.proofs.Common.{Option, Some, None, List, [], ◌∷◌, ◌++◌, length, take, arith, unsigned_abs}
use Rattle.std.specs.List.{All}
use Rattle.std.specs.Int.RustNames.{int_le}
use Rattle.std.proofs.Math.Seq.{take-append_seam}
use Rattle.std.proofs.lemmas.List.Elements.{All-nil, All-cons}
use Rattle.std.proofs.lemmas.List.Sums.{count_by-le-length}
use Rattle.e1_g711.specs.declared.Law.{Law}
use Rattle.e1_g711.specs.Samples.{expand}
use Rattle.g726_quant.specs.Blocks.{quan_magnitude, quantised, subtb, log}
use Rattle.g726_quant.specs.Tables.{RateTables, tables16, tables24, tables32, tables40}
use Rattle.g726_codec.specs.Codec.{Variables, at_reset, word_for, stepped, words_from, octets_from}
use Rattle.g726_codec.specs.Kinds.{rate_tables, words_by, octets_by, enc, dec, encoder_after, decoder_after}
use Rattle.g726_codec.specs.Laws.{OneWordAnOctet, WordsFit, PrefixesComeFirst, NothingIsCoded, SpeechIsItsOwnWords}
use Rattle.g726_codec.specs.Laws.{NothingIsKept, EachWordFits}
use Rattle.g726_codec.specs.declared.CodecKind.TheVariants.{G711, G16, G24, G32, G40}
use Rattle.g726_codec.proofs.Histories.{words_more, octets_more}

-- a word for each octet, and an octet for each word, from any state on
words_counted : (r : RateTables) (law : Law) (s : Variables) (octets : List ℕ)
    → length (words_from r law s octets) ≡ length octets
words_counted r law s [] = refl
words_counted r law s (octet ∷ octets) =
    ap suc (words_counted r law (stepped r s (word_for r s (expand law octet))) octets)

-- an octet for each word
octets_counted : (r : RateTables) (law : Law) (s : Variables) (words : List ℕ)
    → length (octets_from r law s words) ≡ length words
octets_counted r law s [] = refl
octets_counted r law s (word ∷ words) = ap suc (octets_counted r law (stepped r s word) words)

-- the same by the tables, if any
pub words_by_counted : (t : Option RateTables) (law : Law) (s : Variables) (octets : List ℕ)
    → length (words_by t law s octets) ≡ length octets
words_by_counted None law s octets = refl
words_by_counted (Some r) law s octets = words_counted r law s octets

-- and for the octets
octets_by_counted : (t : Option RateTables) (law : Law) (s : Variables) (words : List ℕ)
    → length (octets_by t law s words) ≡ length words
octets_by_counted None law s words = refl
octets_by_counted (Some r) law s words = octets_counted r law s words

-- so a codec of any kind gives as many as it takes
pub counted : OneWordAnOctet
unfolding enc dec
counted law kind = (words_by_counted (rate_tables kind) law at_reset, octets_by_counted (rate_tables kind) law at_reset)

-- what comes first in a list that is as long
first_of : (xs ys given : List ℕ) → length xs ≡ length given → take (length given) (xs ++ ys) ≡ xs
first_of xs ys given e = ap (λ (n : ℕ). take n (xs ++ ys)) (sym e) ∙ take-append_seam xs ys

-- the words of a prefix, and the octets of one, come first
pub come_first : PrefixesComeFirst
unfolding enc dec
come_first law kind =
    let t = rate_tables kind in (
      λ octets later. ap (take (length octets)) (words_more t law at_reset octets later)
          ∙ first_of _ _ octets (words_by_counted t law at_reset octets),
      λ words later. ap (take (length words)) (octets_more t law at_reset words later)
          ∙ first_of _ _ words (octets_by_counted t law at_reset words),
    )

-- a magnitude that fits, and its complement, fit
complement_fits : (is_complement : Bool) (whole magnitude : ℕ) → magnitude < whole
    → cond is_complement (whole - 1 - magnitude) magnitude < whole
complement_fits true whole magnitude h = omega (arith, h)
complement_fits false whole magnitude h = h

-- a word is below 2 ^ bits if there are fewer thresholds than that
word_fits : (r : RateTables) (d : ℤ) (y : ℕ) → length r.thresholds < 2 ^ r.bits → quantised r d y < 2 ^ r.bits
unfolding quantised
word_fits r d y few =
    let dln = subtb (log (unsigned_abs d)) y in
    let counted = count_by-le-length (λ threshold. int_le threshold dln) r.thresholds in
    complement_fits _ (2 ^ r.bits) (quan_magnitude r.thresholds dln) (omega (arith, counted, few))

-- so do the words of octets, from any state on
pub words_fit : (r : RateTables) (law : Law) → length r.thresholds < 2 ^ r.bits → (s : Variables) (octets : List ℕ)
    → All (λ word. word < 2 ^ r.bits) (words_from r law s octets)
words_fit r law few s [] = All-nil (λ word. word < 2 ^ r.bits)
words_fit r law few s (octet ∷ octets) =
    let word = word_for r s (expand law octet) in
    All-cons (λ word. word < 2 ^ r.bits) word _ (word_fits r _ _ few) (words_fit r law few (stepped r s word) octets)

-- so does each word of a codec of any kind
pub fit : WordsFit
unfolding enc
fit law G711 octets all = all
fit law G16 octets all = words_fit tables16 law (omega arith) at_reset octets
fit law G24 octets all = words_fit tables24 law (omega arith) at_reset octets
fit law G32 octets all = words_fit tables32 law (omega arith) at_reset octets
fit law G40 octets all = words_fit tables40 law (omega arith) at_reset octets

-- so does the word of one octet, from any state
pub one_fits : EachWordFits
one_fits law G711 s octet small = small
one_fits law G16 s octet small = word_fits tables16 _ _ (omega arith)
one_fits law G24 s octet small = word_fits tables24 _ _ (omega arith)
one_fits law G32 s octet small = word_fits tables32 _ _ (omega arith)
one_fits law G40 s octet small = word_fits tables40 _ _ (omega arith)

-- in G.711 words are octets, and no state is kept
pub same_words : SpeechIsItsOwnWords
unfolding enc dec
same_words law octets = (refl, refl)

-- and no state is kept
pub nothing_kept : NothingIsKept
unfolding encoder_after decoder_after
nothing_kept law octets words = refl

-- of no octets there are no words, and of no words no octets
none_by : (t : Option RateTables) (law : Law) → (words_by t law at_reset [] ≡ []) × (octets_by t law at_reset [] ≡ [])
none_by None law = (refl, refl)
none_by (Some r) law = (refl, refl)

-- nor of a codec of any kind
pub none_coded : NothingIsCoded
unfolding enc dec
none_coded law kind = none_by (rate_tables kind) law
