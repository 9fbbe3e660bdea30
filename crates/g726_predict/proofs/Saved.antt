-- The variables as numbers of 16 bits, and back.
use Rattle.g726_predict.proofs.Common.{◌≡◌, refl, sym, ap, ◌∙◌, subst, ℕ, ◌+◌, ◌<◌, ◌≤◌, ℤ, pos, Bool, true, false}
use Rattle.g726_predict.proofs.Common.{rules, common_steps, nat_lt, ◌-◌, take, drop, List, [], ◌∷◌, ◌++◌, length, map}
use Rattle.g726_predict.proofs.Common.{get_or, All, arith, SFits, w16, to_z, of_z, nat_tests, to_z-of_z, Prediction}
use Rattle.g726_predict.proofs.Common.{unpacked}
use Rattle.std.proofs.lemmas.Int.{of_z-to_z}
use Rattle.std.proofs.lemmas.List.{ext_get_or, get_or-take, get_or-drop, length-take-le, length-drop, take_all}
use Rattle.std.proofs.lemmas.List.{length-append, length-map}
use Rattle.std.proofs.lemmas.List.Sums.{list_all-from_AllPass}
use Rattle.std.proofs.Math.Seq.{drop-append_seam}
use Rattle.std.proofs.lemmas.List.FromFn.{get_or-map-range_with_len, length-map-range_with_len}
use Rattle.std.proofs.lemmas.List.Elements.{All-cons, All-append, All-map, All-weaker}
use Rattle.std.proofs.lemmas.List.Folds.{list_all_at}
use Rattle.std.specs.List.{range_with_len, list_all}
use Rattle.g726_predict.specs.Float.{FloatWord}
use Rattle.g726_predict.specs.Saved.{saved_numbers, word_number, PredictionFits, WordFits}
use Rattle.g726_predict.proofs.LaneProducts.{bits_below}
use Rattle.g726_predict.proofs.Packing.{unpacked-packed}

-- the first n items that a function gives
abbrev pub first : {A : Type 0} → ℕ → (ℕ → A) → List A
first n item = map item (range_with_len 0 n)

-- a list is the list of its items
pub listed : {A : Type 0} (d : A) (n : ℕ) (xs : List A) → length xs ≡ n → first n (λ i. get_or xs i d) ≡ xs
listed {A = A} d n xs long =
    let item : ℕ → A = λ i. get_or xs i d in
    ext_get_or d (first n item) xs (length-map-range_with_len item 0 n ∙ sym long)
    (λ i less. get_or-map-range_with_len item 0 n i i d (omega (arith, length-map-range_with_len item 0 n))
    (omega arith))

-- a number below 2048 is that of its word
pub packed-unpacked : (n : ℕ) → n < 2048 → word_number (unpacked n) ≡ n
packed-unpacked n few = grind (arith, common_steps)

-- the variables of sixteen numbers
abbrev pub numbered : (ℕ → ℕ) → Bool → Bool → Prediction
numbered n pk1 pk2 = record {
  a1 = to_z w16 (n 6);
  a2 = to_z w16 (n 7);
  b = to_z w16 (n 0) ∷ to_z w16 (n 1) ∷ to_z w16 (n 2) ∷ to_z w16 (n 3) ∷ to_z w16 (n 4) ∷ to_z w16 (n 5) ∷ [];
  dq = unpacked (n 8) ∷ unpacked (n 9) ∷ unpacked (n 10) ∷ unpacked (n 11) ∷ unpacked (n 12) ∷ unpacked (n 13)
      ∷ [];
  sr = unpacked (n 14) ∷ unpacked (n 15) ∷ [];
  pk1 = pk1;
  pk2 = pk2;
}

-- their numbers are these
pub saved-numbered : (n : ℕ → ℕ) (pk1 pk2 : Bool) → ((i : ℕ) → i < 8 → n i < 65536)
    → ((i : ℕ) → 8 ≤ i → i < 16 → n i < 2048) → saved_numbers (numbered n pk1 pk2) ≡ first 16 n
saved-numbered n pk1 pk2 fits words = rw (
  of_z-to_z w16 (n 0) (fits 0 (omega arith)),
  of_z-to_z w16 (n 1) (fits 1 (omega arith)),
  of_z-to_z w16 (n 2) (fits 2 (omega arith)),
  of_z-to_z w16 (n 3) (fits 3 (omega arith)),
  of_z-to_z w16 (n 4) (fits 4 (omega arith)),
  of_z-to_z w16 (n 5) (fits 5 (omega arith)),
  of_z-to_z w16 (n 6) (fits 6 (omega arith)),
  of_z-to_z w16 (n 7) (fits 7 (omega arith)),
  packed-unpacked (n 8) (words 8 (omega arith) (omega arith)),
  packed-unpacked (n 9) (words 9 (omega arith) (omega arith)),
  packed-unpacked (n 10) (words 10 (omega arith) (omega arith)),
  packed-unpacked (n 11) (words 11 (omega arith) (omega arith)),
  packed-unpacked (n 12) (words 12 (omega arith) (omega arith)),
  packed-unpacked (n 13) (words 13 (omega arith) (omega arith)),
  packed-unpacked (n 14) (words 14 (omega arith) (omega arith)),
  packed-unpacked (n 15) (words 15 (omega arith) (omega arith)),
) refl

-- a word is that of its number
word-again : (w : FloatWord) → WordFits w → unpacked (word_number w) ≡ w
word-again w fits = unpacked-packed w.negative w.exponent w.mantissa fits.0 fits.1

-- the number of a word has 11 bits
pub number-below : (w : FloatWord) → WordFits w → word_number w < 2048
number-below w fits = grind (arith, common_steps)

-- Variables by their items: those of their numbers are they.
abbrev pub varied : (ℕ → ℤ) → ℤ → ℤ → (ℕ → FloatWord) → (ℕ → FloatWord) → Bool → Bool → Prediction
varied b a1 a2 dq sr pk1 pk2 =
    record { a1 = a1; a2 = a2; b = first 6 b; dq = first 6 dq; sr = first 2 sr; pk1 = pk1; pk2 = pk2 }

-- the variables of the numbers of variables are these
numbered-varied : (b : ℕ → ℤ) (a1 a2 : ℤ) (dq sr : ℕ → FloatWord) (pk1 pk2 : Bool)
    → ((i : ℕ) → i < 6 → SFits w16 (b i)) → SFits w16 a1 → SFits w16 a2
    → ((i : ℕ) → i < 6 → WordFits (dq i)) → ((i : ℕ) → i < 2 → WordFits (sr i))
    → numbered (λ i. get_or (saved_numbers (varied b a1 a2 dq sr pk1 pk2)) i 0) pk1 pk2
    ≡ varied b a1 a2 dq sr pk1 pk2
numbered-varied b a1 a2 dq sr pk1 pk2 b_fits a1_fits a2_fits dq_fits sr_fits = search (rules, to_z-of_z, word-again)

-- variables of their width are those of their items
pub is-varied : (s : Prediction) → PredictionFits s
    → varied (λ i. get_or s.b i (pos 0)) s.a1 s.a2 (λ i. get_or s.dq i (unpacked 0))
    (λ i. get_or s.sr i (unpacked 0)) s.pk1 s.pk2 ≡ s
is-varied s fits = rw (
  listed (pos 0) 6 s.b fits.b_count,
  listed (unpacked 0) 6 s.dq fits.dq_count,
  listed (unpacked 0) 2 s.sr fits.sr_count,
) refl

-- the variables of the numbers of any variables of their width are these
pub numbered-saved : (s : Prediction) → PredictionFits s
    → numbered (λ i. get_or (saved_numbers s) i 0) s.pk1 s.pk2 ≡ s
numbered-saved s fits =
    subst (λ (t : Prediction). numbered (λ i. get_or (saved_numbers t) i 0) s.pk1 s.pk2 ≡ t) (is-varied s fits)
    (numbered-varied (λ i. get_or s.b i (pos 0)) s.a1 s.a2 (λ i. get_or s.dq i (unpacked 0))
    (λ i. get_or s.sr i (unpacked 0)) s.pk1 s.pk2
    (λ i less. fits.b i (pos 0) (omega (arith, fits.b_count))) fits.a1 fits.a2
    (λ i less. fits.dq i (unpacked 0) (omega (arith, fits.dq_count)))
    (λ i less. fits.sr i (unpacked 0) (omega (arith, fits.sr_count))))

-- the last eight of sixteen numbers are those of words
abbrev pub are_words : List ℕ → Bool
are_words ns = list_all (λ n. nat_lt n 2048) (take 8 (drop 8 ns))

-- then each of them is below 2048
pub words-known : (ns : List ℕ) → length ns ≡ 16 → are_words ns ≡ true
    → (i : ℕ) → 8 ≤ i → i < 16 → get_or ns i 0 < 2048
words-known ns long all i low high = go (nat_lt (get_or ns i 0) 2048) refl
  where
    go : (b : Bool) → nat_lt (get_or ns i 0) 2048 ≡ b → get_or ns i 0 < 2048
    go true is = grind (arith, nat_tests)
    go false is =
        let at : 8 + (i - 8) ≡ i = omega arith in
        let same : get_or (take 8 (drop 8 ns)) (i - 8) 0 ≡ get_or ns i 0 =
        get_or-take 8 (drop 8 ns) (i - 8) 0 (omega arith) ∙ get_or-drop 8 ns (i - 8) 0 ∙ ap (λ k. get_or ns k 0) at in
        let left : length (drop 8 ns) ≡ 8 = length-drop 8 ns ∙ ap (λ k. k - 8) long in
        let many : length (take 8 (drop 8 ns)) ≡ 8 = length-take-le 8 (drop 8 ns) (omega arith) in
        let none = list_all_at (λ n. nat_lt n 2048) (take 8 (drop 8 ns)) (i - 8) 0 (omega arith)
        (ap (λ n. nat_lt n 2048) same ∙ is) in
        absurd cc

-- the numbers of variables of their width pass it
pub saved-words : (s : Prediction) → PredictionFits s → are_words (saved_numbers s) ≡ true
saved-words s fits =
    let front = map (of_z w16) (s.b ++ s.a1 ∷ s.a2 ∷ []) in
    let words = map word_number (s.dq ++ s.sr) in
    let eight : length front ≡ 8 = simp (length-map, length-append) (omega (arith, fits.b_count)) in
    let last : length words ≤ 8 = simp (length-map, length-append) (omega (arith, fits.dq_count, fits.sr_count)) in
    let behind : drop 8 (front ++ words) ≡ words = rw eight at (drop-append_seam front words) in
    rw (behind, take_all 8 words last) (list_all-from_AllPass (λ n. nat_lt n 2048) words
    (All-map (λ n. nat_lt n 2048 ≡ true) word_number (s.dq ++ s.sr)
    (All-weaker WordFits (λ w. nat_lt (word_number w) 2048 ≡ true) passes (s.dq ++ s.sr)
    (All-append WordFits s.dq s.sr fits.dq fits.sr))))
  where
    passes : (w : FloatWord) → WordFits w → nat_lt (word_number w) 2048 ≡ true
    passes w fits = let below = number-below w fits in grind (arith, nat_tests)

-- a word of a number has its width
pub unpacked-fits : (n : ℕ) → WordFits (unpacked n)
unpacked-fits n = (omega arith, omega arith)

-- what holds of two holds of their list
pub of-two : {A : Type 0} (P : A → Type 0) (x y : A) → P x → P y → All P (x ∷ y ∷ [])
of-two P x y p q = All-cons P x (y ∷ []) p (All-cons P y [] q (λ k d less. absurd (omega arith)))

-- and of six
pub of-six : {A : Type 0} (P : A → Type 0) (a b c d e f : A) → P a → P b → P c → P d → P e → P f
    → All P (a ∷ b ∷ c ∷ d ∷ e ∷ f ∷ [])
of-six P a b c d e f one two three four five six = grind (arith, common_steps)

-- the numbers of variables of their width are sixteen of 16 bits
pub numbers-fit : (s : Prediction) → PredictionFits s
    → (length (saved_numbers s) ≡ 16) × All (λ n. n < 65536) (saved_numbers s)
numbers-fit s fits = (
  simp (length-append, length-map) (omega (arith, fits.b_count, fits.dq_count, fits.sr_count)),
  All-append (λ n. n < 65536) (map (of_z w16) (s.b ++ s.a1 ∷ s.a2 ∷ [])) (map word_number (s.dq ++ s.sr))
      (All-map (λ n. n < 65536) (of_z w16) (s.b ++ s.a1 ∷ s.a2 ∷ [])
      (All-weaker (SFits w16) (λ z. of_z w16 z < 65536) bits_below (s.b ++ s.a1 ∷ s.a2 ∷ [])
      (All-append (SFits w16) s.b (s.a1 ∷ s.a2 ∷ []) fits.b (of-two (SFits w16) s.a1 s.a2 fits.a1 fits.a2))))
      (All-map (λ n. n < 65536) word_number (s.dq ++ s.sr)
      (All-weaker WordFits (λ w. word_number w < 65536) few (s.dq ++ s.sr)
      (All-append WordFits s.dq s.sr fits.dq fits.sr))),
)
  where
    few : (w : FloatWord) → WordFits w → word_number w < 65536
    few w fits = let below = number-below w fits in omega arith
