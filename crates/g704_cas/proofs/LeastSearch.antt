-- A search finds the least position at which alignment can be found.
use Rattle.std.proofs.Common.{◌≡◌, ℕ, zero, suc, ◌-◌, ◌<◌, List, [], ◌∷◌, length, Bool, false, Option, Some, None, refl}
use Rattle.std.proofs.Common.{sym, ap, ◌∙◌, arith, get_or, inl, inr}
use Rattle.std.specs.Prelude.{nat_le, ◌&&◌, slice_index}
use Rattle.std.proofs.lemmas.Bool.{cases_Bool, le-leb, lt-leb, lt-ltb, le-ltb, and_left, and_right}
use Rattle.g704_framing.proofs.Leasts.{IsLeast, least_equals, least_alike, le-suc, least-later}
use Rattle.g704_framing.proofs.Agrees.{within_reach}
use Rattle.g704_cas.specs.Search.{is_mfas, is_not_zero, search, is_found_at, SearchIsLeast}

-- the octet before a position, in octets that come after this one, if any
abbrev octet_before : Option ℕ → List ℕ → ℕ → Option ℕ
octet_before b s zero = b
octet_before b [] (suc k) = None
octet_before b (x ∷ s) (suc k) = octet_before (Some x) s k

-- alignment is found at the position, if the search begins there or before
abbrev finds : Option ℕ → List ℕ → ℕ → ℕ → Bool
finds b s from k = nat_le from k && (is_mfas (slice_index s k) && is_not_zero (octet_before b s k))

-- a search finds the least position at which one that begins there can find
search-least : (b : Option ℕ) (s : List ℕ) (from : ℕ) → IsLeast (finds b s from) (length s) (search b s from)
unfolding search
search-least b [] from = λ k lt. absurd (omega arith)
search-least b (x ∷ s) (suc from) =
    least-later (finds (Some x) s from) (finds b (x ∷ s) (suc from)) (length s) (search (Some x) s from)
    (and_left _ _ (lt-leb (suc from) 0 (omega arith)))
    (λ k. ap (λ late. late && (is_mfas (slice_index s k) && is_not_zero (octet_before (Some x) s k))) (le-suc from k))
    (search-least (Some x) s from)
search-least b (x ∷ s) zero = elim (cases_Bool (is_mfas x && is_not_zero b)) [
  | inl found ↦ rw found (omega arith, rw (le-leb 0 0 (omega arith)) found, λ k lt. absurd (omega arith))
  | inr passed ↦ rw passed (least-later (finds (Some x) s 0) (finds b (x ∷ s) 0) (length s) (search (Some x) s 0)
      (and_right (nat_le 0 0) (is_mfas x && is_not_zero b) passed)
      (λ k. ap (λ late. late && (is_mfas (slice_index s k) && is_not_zero (octet_before (Some x) s k)))
      (le-leb 0 (suc k) (omega arith) ∙ sym (le-leb 0 k (omega arith))))
      (search-least (Some x) s 0))
]

-- the octet before a position is the one in the list
octet_before-at : (b : Option ℕ) (s : List ℕ) (k : ℕ) → k < length s → octet_before b s (suc k) ≡ Some (get_or s k 0)
octet_before-at b [] k lt = absurd (omega arith)
octet_before-at b (x ∷ s) zero lt = refl
octet_before-at b (x ∷ s) (suc k) lt = octet_before-at (Some x) s k (omega arith)

-- with no octet before the first, the test is that of `is_found_at`
finds-is : (s : List ℕ) (from k : ℕ) → k < length s → finds None s from k ≡ (nat_le from k && is_found_at s k)
finds-is s from zero lt = cc (le-ltb 0 0 (omega arith), and_right (is_mfas (slice_index s 0)) false refl)
finds-is s from (suc k) lt = grind (arith, lt-ltb 0 (suc k) (omega arith), octet_before-at None s k (omega arith))

-- the law
pub search_is_least : SearchIsLeast
search_is_least s from =
    let is = search-least None s from in
    sym (least_equals (λ k. nat_le from k && is_found_at s k) (length s) (search None s from)
    (least_alike (finds None s from) (λ k. nat_le from k && is_found_at s k) (length s) (search None s from)
    (λ k lt. finds-is s from k (within_reach (finds None s from) k (length s) (search None s from) is lt)) is))
