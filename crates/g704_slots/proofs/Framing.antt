-- Searches for slot 16, and that it is found and lost as the laws have it.
use Rattle.std.proofs.Common.{◌≡◌, ℕ, suc, ◌+◌, ◌<◌, List, ◌∷◌, ◌++◌, length, Bool, false}
use Rattle.std.proofs.Common.{Option, Some, None, refl, sym, ap, ◌∙◌, arith, inl, inr}
use Rattle.std.specs.Prelude.{◌&&◌, nat_le, option_map}
use Rattle.std.proofs.lemmas.Bool.{cases_lt, and_parts, false≢true}
use Rattle.std.proofs.lemmas.Bool.Decides.{nat_tests}
use Rattle.std.proofs.lemmas.List.{length-append}
use Rattle.g704_framing.specs.Least.{least}
use Rattle.g704_framing.specs.Laws.{IsFraming, IsFoundAfter}
use Rattle.g704_framing.proofs.Leasts.{IsLeast, least-is, least_equals, least-later, le-suc}
use Rattle.g704_slots.specs.Search.{search, is_found}
use Rattle.g704_slots.specs.Loss.{slot_16}
use Rattle.g704_slots.proofs.Wholes.{found-within, found-append, found-later}
use Rattle.g704_slots.proofs.Losses.{second-same}

-- the test of a search from a position on
abbrev pub passes : List ℕ → ℕ → ℕ → Bool
passes s from k = nat_le from k && is_found s k

-- a search is for the least position that passes
pub search-least : (s : List ℕ) (from : ℕ) → search s from ≡ least (passes s from) (length s)
unfolding search
search-least s from = refl

-- and what is least is what it finds
pub least-search : (s : List ℕ) (from : ℕ) (o : Option ℕ) → IsLeast (passes s from) (length s) o → o ≡ search s from
least-search s from o h = sym (search-least s from ∙ least_equals (passes s from) (length s) o h)

-- so what they bring is found by later octets
search-after : (s t : List ℕ) (from : ℕ) → search s from ≡ None
    → IsFoundAfter (length s) 1984 (search (s ++ t) from)
search-after s t from e =
    rw (search-least (s ++ t) from) (go (least (passes (s ++ t) from) (length (s ++ t)))
    (least-is (passes (s ++ t) from) (length (s ++ t))))
  where
    none : IsLeast (passes s from) (length s) None
    none = rw (sym (search-least s from) ∙ e) at (least-is (passes s from) (length s))

    go : (o : Option ℕ) → IsLeast (passes (s ++ t) from) (length (s ++ t)) o → IsFoundAfter (length s) 1984 o
    go None h = tt
    go (Some k) h = elim (cases_lt (k + 1984) (length s)) [
      | inr ge ↦ ge
      | inl lt ↦ absurd (false≢true (sym (none k (omega arith)) ∙ sym (ap (λ b. nat_le from k && b)
          (found-append s t k lt)) ∙ h.1))
    ]

-- slot 16 is found and lost as the laws have it
pub slot_16_is_framed : IsFraming slot_16
unfolding search least
slot_16_is_framed = record {
  nothing = λ before from. refl;
  later = λ before x stream from. moved x stream from;
  found = λ before stream rest from start e. kept stream rest from start e;
  not_found = λ before stream rest from e. search-after stream rest from e;
  reads = λ octets others place same. second-same octets others place same;
  whole = refl;
}
  where
    -- a search from a later octet on does not look at this one
    moved : (x : ℕ) (s : List ℕ) (from : ℕ) → search (x ∷ s) (suc from) ≡ option_map suc (search s from)
    moved x s from =
        let first : nat_le (suc from) 0 ≡ false = grind (arith, nat_tests) in
        sym (least-search (x ∷ s) (suc from) (option_map suc (search s from))
        (least-later (passes s from) (passes (x ∷ s) (suc from)) (length s) (search s from) (rw first refl)
        (λ k. rw (le-suc from k, found-later x s k) refl)
        (rw (search-least s from) (least-is (passes s from) (length s)))))

    -- later octets change nothing that is found
    kept : (s t : List ℕ) (from start : ℕ) → search s from ≡ Some start → search (s ++ t) from ≡ Some start
    kept s t from start e =
        let h : IsLeast (passes s from) (length s) (Some start)
        = rw (sym (search-least s from) ∙ e) at (least-is (passes s from) (length s)) in
        let within : start + 1984 < length s
        = found-within s start (and_parts (nat_le from start) (is_found s start) h.1).1 in
        sym (least-search (s ++ t) from (Some start) (
          omega (arith, length-append s t, h.0),
          rw (found-append s t start within) h.1,
          λ k lt. rw (found-append s t k (omega (arith, within, lt))) (h.2 k lt),
        ))
