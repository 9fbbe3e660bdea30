-- An alignment, one window more.
use Rattle.std.proofs.Common.{◌≡◌, ℕ, ◌+◌, ◌*◌, ◌<◌, ◌%◌, ◌/◌, List, [], ◌∷◌, ◌++◌, length, true, false}
use Rattle.std.proofs.Common.{Some, None, refl, ◌∙◌, arith, inl, inr}
use Rattle.std.specs.Prelude.{◌≢◌, slice_index}
use Rattle.std.proofs.lemmas.List.{length_push}
use Rattle.std.proofs.lemmas.Bool.{and_parts, cases_eq}
use Rattle.g704_align.specs.Search.{is_fas, is_nfas}
use Rattle.g704_align.specs.Loss.{is_third_wrong}
use Rattle.g704_align.specs.Aligner.{count_after}
use Rattle.g704_align.specs.Aligner as frames
use Rattle.g704_align.proofs.Steps as octets
use Rattle.g704_bits.specs.Search.{is_confirmed}
use Rattle.g704_bits.specs.Loss.{octets_along, is_lost_at}
use Rattle.g704_bits.specs.Aligner.{IsAlignedRun}
use Rattle.g704_bits.proofs.Eighths.{length-octets, octet-at, octets-push, octets-between, lost-octet, lost-between}

-- three windows that confirm one another are an alignment, with no wrong one
pub alignment-found : (c : List ℕ) → length c ≡ 513 → is_confirmed c 0 ≡ true → IsAlignedRun 1 0 0 c
unfolding is_confirmed
alignment-found c l sure =
    let one = and_parts (is_fas (slice_index c 0)) _ sure in
    let two = and_parts (is_nfas (slice_index c 256)) _ one.1 in
    let n : length (octets_along c) ≡ 65 = omega (arith, length-octets c) in
    record {
      counted = omega arith;
      found = omega arith;
      octets = rw n (octets.alignment-found (octets_along c) n (rw (octet-at c 0) one.0) (rw (octet-at c 32) two.0)
          (rw (octet-at c 64) two.1));
    }

-- the first window of an alignment is confirmed
pub first-confirmed : (c : List ℕ) (age ws wd : ℕ) → IsAlignedRun age ws wd c → is_confirmed c 0 ≡ true
unfolding is_confirmed
first-confirmed c age ws wd h =
    rw (← octet-at c 0, ← octet-at c 32, ← octet-at c 64, h.octets.fas, h.octets.nfas, h.octets.confirmed) refl

-- a present alignment is not lost
pub not-lost : (c : List ℕ) (age ws wd : ℕ) → IsAlignedRun age ws wd c → (k : ℕ) → k < length c
    → is_lost_at c k ≡ false
not-lost c age ws wd h k lt = elim (cases_eq (k % 8) 0) [
  | inr ne ↦ lost-between c k ne
  | inl e ↦ lost-octet c k e ∙ h.octets.kept (k / 8) (omega (arith, length-octets c))
]

-- an alignment after one window more
module _ (c : List ℕ) (x age ws wd : ℕ) (h : IsAlignedRun age ws wd c) where
  -- an age is below two frames
  pub age-below : age < 512
  age-below = let a = h.counted in omega arith

  -- the window lies between two octets
  between : length c % 8 ≢ 0 → IsAlignedRun ((age + 1) % 512) ws wd (c ++ x ∷ [])
  between ne = grind (arith, length_push c x, octets-between c x ne)

  -- or is the next one
  next-octet : (ws' wd' : ℕ) → length c % 8 ≡ 0
      → frames.IsAlignedRun ((length (octets_along c) % 64 + 1) % 64) ws' wd' (octets_along c ++ x ∷ [])
      → IsAlignedRun ((age + 1) % 512) ws' wd' (c ++ x ∷ [])
  next-octet ws' wd' e more = grind (arith, length_push c x, length_push (octets_along c) x, octets-push c x e)

  -- the age of the octet, if that of the window is whole octets
  octet-age : (rest : ℕ) → age ≡ 8 * rest → rest < 64 → (length c % 8 ≡ 0) × (length (octets_along c) % 64 ≡ rest)
  octet-age rest e lt = let a = h.counted in let l = length-octets c in (omega arith, omega arith)

  -- the window loses the alignment if the octet does
  lost-by : length c % 8 ≡ 0 → is_third_wrong (octets_along c ++ x ∷ []) (length (octets_along c)) ≡ true
      → is_lost_at (c ++ x ∷ []) (length c) ≡ true
  lost-by e third = grind (arith, length-octets c, lost-octet (c ++ x ∷ []) (length c) e, octets-push c x e)

  -- by the octet of slot 0 of an even frame
  pub fas-more : (n : ℕ) → age ≡ 0 → Some n ≡ count_after ws (is_fas x)
      → IsAlignedRun ((age + 1) % 512) n wd (c ++ x ∷ [])
  fas-more n e counted =
      let at = octet-age 0 e (omega arith) in
      next-octet n wd at.0 (octets.fas-more (octets_along c) x _ ws wd h.octets n at.1 counted)

  -- it may be the third wrong one
  pub fas-lost : age ≡ 0 → None ≡ count_after ws (is_fas x) → is_lost_at (c ++ x ∷ []) (length c) ≡ true
  fas-lost e counted =
      let at = octet-age 0 e (omega arith) in
      lost-by at.0 (octets.fas-third (octets_along c) x _ ws wd h.octets at.1 counted)

  -- of an odd frame
  pub nfas-more : (n : ℕ) → age ≡ 256 → Some n ≡ count_after wd (is_nfas x)
      → IsAlignedRun ((age + 1) % 512) ws n (c ++ x ∷ [])
  nfas-more n e counted =
      let at = octet-age 32 e (omega arith) in
      next-octet ws n at.0 (octets.nfas-more (octets_along c) x _ ws wd h.octets n at.1 counted)

  -- it may be the third wrong one
  pub nfas-lost : age ≡ 256 → None ≡ count_after wd (is_nfas x) → is_lost_at (c ++ x ∷ []) (length c) ≡ true
  nfas-lost e counted =
      let at = octet-age 32 e (omega arith) in
      lost-by at.0 (octets.nfas-third (octets_along c) x _ ws wd h.octets at.1 counted)

  -- of another slot, or between two octets
  pub other-more : age ≢ 0 → age ≢ 256 → IsAlignedRun ((age + 1) % 512) ws wd (c ++ x ∷ [])
  other-more p q = elim (cases_eq (length c % 8) 0) [
    | inr ne ↦ between ne
    | inl e ↦
        let a = h.counted in
        let l = length-octets c in
        next-octet ws wd e (octets.other-more (octets_along c) x _ ws wd h.octets
        (λ z. p (omega (arith, z))) (λ z. q (omega (arith, z))))
  ]
