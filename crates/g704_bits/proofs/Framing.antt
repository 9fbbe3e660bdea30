-- Searches over bits, and that alignment over bits is an alignment of the kind that the laws speak of.
use Rattle.std.proofs.lemmas.Grind.{common_steps}
use Rattle.std.proofs.Common.{◌≡◌, ℕ, suc, ◌+◌, ◌<◌, List, ◌∷◌, ◌++◌, length, Bool, true, false, Option, Some, None}
use Rattle.std.proofs.Common.{refl, sym, ap, ◌∙◌, arith, inl, inr}
use Rattle.std.specs.Prelude.{◌&&◌, nat_le, option_map}
use Rattle.std.proofs.lemmas.Bool.{cases_lt, and_parts, false≢true}
use Rattle.std.proofs.lemmas.Bool.Decides.{nat_tests}
use Rattle.std.proofs.lemmas.List.{get_or-append-add, length-append}
use Rattle.g704_framing.specs.Least.{least}
use Rattle.g704_framing.specs.Laws.{IsFraming, IsFoundAfter}
use Rattle.g704_framing.proofs.Leasts.{IsLeast, least-is, least_equals, least-later, le-suc}
use Rattle.g704_align.specs.Search.{is_fas}
use Rattle.g704_bits.specs.Search.{search, is_confirmed}
use Rattle.g704_bits.specs.Loss.{bit_alignment}
use Rattle.g704_bits.proofs.Eighths.{lost-reads}

-- the test of a search from a position on
abbrev pub passes : List ℕ → ℕ → ℕ → Bool
passes s from k = nat_le from k && is_confirmed s k

-- past the end there is no signal
pub confirmed-within : (s : List ℕ) (k : ℕ) → is_confirmed s k ≡ true → k + 512 < length s
unfolding is_confirmed is_fas
confirmed-within s k h = grind (arith, common_steps)

-- if all three windows are there, later ones change nothing
pub confirmed-append : (s t : List ℕ) (k : ℕ) → k + 512 < length s → is_confirmed (s ++ t) k ≡ is_confirmed s k
unfolding is_confirmed
confirmed-append s t k lt = grind (arith, common_steps)

-- behind other windows it is the same three
pub confirmed-behind : (s t : List ℕ) → is_confirmed (s ++ t) (length s) ≡ is_confirmed t 0
unfolding is_confirmed
confirmed-behind s t =
    grind (arith, get_or-append-add s t 0 0, get_or-append-add s t 256 0, get_or-append-add s t 512 0)

-- what a search says
pub search-is : (s : List ℕ) (from : ℕ) → IsLeast (passes s from) (length s) (search s from)
unfolding search
search-is s from = least-is (passes s from) (length s)

-- and nothing else is
pub search-equals : (s : List ℕ) (from : ℕ) (o : Option ℕ) → IsLeast (passes s from) (length s) o
    → search s from ≡ o
unfolding search
search-equals s from o h = least_equals (passes s from) (length s) o h

-- the test of a later window
confirmed-later : (x : ℕ) (s : List ℕ) (k : ℕ) → is_confirmed (x ∷ s) (suc k) ≡ is_confirmed s k
unfolding is_confirmed
confirmed-later x s k =
    let a : suc k + 256 ≡ suc (k + 256) = omega arith in
    let b : suc k + 512 ≡ suc (k + 512) = omega arith in
    rw (a, b) refl

-- a search from a later window on does not look at this one
search-later : (x : ℕ) (s : List ℕ) (from : ℕ) → search (x ∷ s) (suc from) ≡ option_map suc (search s from)
search-later x s from =
    let first : nat_le (suc from) 0 ≡ false = grind (arith, nat_tests) in
    search-equals (x ∷ s) (suc from) (option_map suc (search s from))
    (least-later (passes s from) (passes (x ∷ s) (suc from)) (length s) (search s from) (rw first refl)
    (λ k. rw (le-suc from k, confirmed-later x s k) refl) (search-is s from))

-- later windows change nothing that is found
search-append : (s t : List ℕ) (from start : ℕ) → search s from ≡ Some start → search (s ++ t) from ≡ Some start
search-append s t from start e =
    let h : IsLeast (passes s from) (length s) (Some start) = rw e at (search-is s from) in
    let within : start + 512 < length s
    = confirmed-within s start (and_parts (nat_le from start) (is_confirmed s start) h.1).1 in
    search-equals (s ++ t) from (Some start) (
      omega (arith, length-append s t, h.0),
      rw (confirmed-append s t start within) h.1,
      λ k lt. rw (confirmed-append s t k (omega (arith, within, lt))) (h.2 k lt),
    )

-- and what they bring is found by one of them
search-after : (s t : List ℕ) (from : ℕ) → search s from ≡ None
    → IsFoundAfter (length s) 512 (search (s ++ t) from)
search-after s t from e = go (search (s ++ t) from) (search-is (s ++ t) from)
  where
    none : IsLeast (passes s from) (length s) None
    none = rw e at (search-is s from)

    go : (o : Option ℕ) → IsLeast (passes (s ++ t) from) (length (s ++ t)) o → IsFoundAfter (length s) 512 o
    go None h = tt
    go (Some k) h = elim (cases_lt (k + 512) (length s)) [
      | inr ge ↦ ge
      | inl lt ↦ absurd (false≢true (sym (none k (omega arith)) ∙ sym (ap (λ b. nat_le from k && b)
          (confirmed-append s t k lt)) ∙ h.1))
    ]

-- alignment over bits is an alignment of the kind that the laws speak of
pub bits_are_framing : IsFraming bit_alignment
unfolding search least
bits_are_framing = record {
  nothing = λ before from. refl;
  later = λ before x stream from. search-later x stream from;
  found = λ before stream rest from start e. search-append stream rest from start e;
  not_found = λ before stream rest from e. search-after stream rest from e;
  reads = λ octets others place same. lost-reads octets others place same;
  whole = refl;
}
