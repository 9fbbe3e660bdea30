-- The ages of two octets in a row.
use Rattle.g704_crc4.proofs.Common.{◌≡◌, ℕ, suc, ◌+◌, ◌-◌, ◌<◌, ◌≤◌, List, [], ◌∷◌, true, false, Option, Some, None}
use Rattle.g704_crc4.proofs.Common.{rules, sym, ◌∙◌, arith, inl, inr, lt-leb, le-leb, and_left, and_parts, cases_lt}
use Rattle.g704_crc4.proofs.Common.{cases_Bool, false≢true, age_in, IsFraming}
use Rattle.std.proofs.lemmas.Option.{same_Some}
use Rattle.g704_framing.specs.Alignment.{Framing, AlignmentSpan, alignments_from, after_search, after_loss}
use Rattle.g704_framing.specs.Age.{is_before_loss, is_standing}
use Rattle.g704_framing.proofs.Turns.{alignments_turns}
use Rattle.g704_framing.proofs.Settles.{IsNotBefore, alignments-begin, age_in-before, age-after_loss, loss-not_before}

-- By the age of an octet: it is the first of its alignment that has an age, and the octet before it has none, or
-- that one has an age one below.
pub record IsAgeBefore (first position age : ℕ) (before : Option ℕ) : Type 0 where
  pub least : first ≤ age
  pub within : age ≤ position
  pub begins : age ≡ first → before ≡ None
  pub goes_on : first < age → before ≡ Some (age - 1)

-- What comes before a loss also does one octet earlier.
before_loss-earlier : (n : ℕ) (o : Option ℕ) → is_before_loss (suc n) o ≡ true → is_before_loss n o ≡ true
before_loss-earlier n o e = search rules

-- Where the next octet does not come before the loss any more, it is the loss.
loss-here : (n : ℕ) (o : Option ℕ) → is_before_loss n o ≡ true → is_before_loss (suc n) o ≡ false → o ≡ Some (suc n)
loss-here n o e g = search rules

module _ (f : Framing) (h : IsFraming f) (b : Option ℕ) (s : List ℕ) (a n k : ℕ) where
  -- There is an alignment at the octet.
  in_alignment : (p : ℕ) (l : Option ℕ) (ds : List AlignmentSpan) → ds ≡ after_loss f b s l → IsNotBefore p l
      → p + a ≤ suc n → is_before_loss (suc n) l ≡ true → suc n - p ≡ k
      → IsAgeBefore a (suc n) k (age_in a (record { start = p; lost = l } ∷ ds) n)
  in_alignment p l ds tail nb le up e =
      search (rules, cases_lt, and_left, lt-leb, age-after_loss, le-leb, before_loss-earlier)

  -- There is no alignment at the octet, and there was none before, or it is lost by the octet.
  past_alignment : (p : ℕ) (l : Option ℕ) (ds : List AlignmentSpan) → ds ≡ after_loss f b s l
      → is_standing a (record { start = p; lost = l }) (suc n) ≡ false → age_in a ds (suc n) ≡ Some k
      → IsAgeBefore a (suc n) k (age_in a ds n)
      → IsAgeBefore a (suc n) k (age_in a (record { start = p; lost = l } ∷ ds) n)
  unfolding after_loss
  past_alignment p l ds tail gone i again = elim (cases_Bool (is_standing a (record { start = p; lost = l }) n)) [
    | inr other ↦ rw other again
    | inl stands ↦
        let parts = and_parts _ _ stands in
        elim (cases_lt (suc n) (p + a)) [
          | inl lt ↦ absurd (false≢true (sym (lt-leb (p + a) n (omega arith)) ∙ parts.0))
          | inr ge ↦
              let lost : l ≡ Some (suc n) = loss-here n l parts.1 (rw (le-leb (p + a) (suc n) ge) at gone) in
              let left : ds ≡ alignments_from f b s (suc (suc n)) = rw lost at tail in
              let none : age_in a ds (suc n) ≡ None
              = rw left (age_in-before a (suc (suc n)) (suc n) (alignments_from f b s (suc (suc n)))
              (alignments-begin f b s (suc (suc n))) (omega arith)) in
              cc
        ]
  ]

  -- What follows an alignment.
  after_it : (ds : List AlignmentSpan) (o : Option ℕ) → ds ≡ after_loss f b s o → age_in a ds (suc n) ≡ Some k
      → ((q : ℕ) → ds ≡ alignments_from f b s (suc q) → age_in a ds (suc n) ≡ Some k
      → IsAgeBefore a (suc n) k (age_in a ds n))
      → IsAgeBefore a (suc n) k (age_in a ds n)
  unfolding after_loss
  after_it ds None e j again = let none = rw e at j in cc
  after_it ds (Some q) e j again = again q e j

  -- An alignment that begins here, or what follows it.
  one_alignment : (p : ℕ) (l : Option ℕ) (ds : List AlignmentSpan) → ds ≡ after_loss f b s l → IsNotBefore p l
      → age_in a (record { start = p; lost = l } ∷ ds) (suc n) ≡ Some k
      → ((q : ℕ) → ds ≡ alignments_from f b s (suc q) → age_in a ds (suc n) ≡ Some k
      → IsAgeBefore a (suc n) k (age_in a ds n))
      → IsAgeBefore a (suc n) k (age_in a (record { start = p; lost = l } ∷ ds) n)
  one_alignment p l ds tail nb i again = elim (cases_Bool (is_standing a (record { start = p; lost = l }) (suc n))) [
    | inr other ↦ let j : age_in a ds (suc n) ≡ Some k = rw other at i in
        past_alignment p l ds tail other j (after_it ds l tail j again)
    | inl stands ↦
        let parts = and_parts _ _ stands in
        elim (cases_lt (suc n) (p + a)) [
          | inl lt ↦ absurd (false≢true (sym (lt-leb (p + a) (suc n) lt) ∙ parts.0))
          | inr ge ↦ in_alignment p l ds tail nb ge parts.1 (same_Some _ _ (rw stands at i))
        ]
  ]

  -- What was found, and what follows it.
  found_before : (d : AlignmentSpan) (ds : List AlignmentSpan) (o : Option ℕ) → d ∷ ds ≡ after_search f b s o
      → age_in a (d ∷ ds) (suc n) ≡ Some k
      → ((q : ℕ) → ds ≡ alignments_from f b s (suc q) → age_in a ds (suc n) ≡ Some k
      → IsAgeBefore a (suc n) k (age_in a ds n))
      → IsAgeBefore a (suc n) k (age_in a (d ∷ ds) n)
  unfolding after_search
  found_before d ds None e i again = cc
  found_before d ds (Some p) e i again = search (rules, one_alignment, loss-not_before)

  -- From the alignments of a stream.
  pub age_before : (ds : List AlignmentSpan) (from : ℕ) → ds ≡ alignments_from f b s from
      → age_in a ds (suc n) ≡ Some k
      → IsAgeBefore a (suc n) k (age_in a ds n)
  age_before [] from e i = cc
  age_before (d ∷ ds) from e i =
      found_before d ds (f.search b s from) (e ∙ alignments_turns f h b s from) i (λ q. age_before ds (suc q))
