-- A search finds the least position of a FAS octet from its begin.
use Rattle.std.proofs.Common.{◌≡◌, ℕ, zero, suc, ◌+◌, List, [], ◌∷◌, length, Bool, Option, Some, None, refl, sym, ap}
use Rattle.std.proofs.Common.{◌∙◌, arith}
use Rattle.std.specs.Prelude.{nat_le, ◌&&◌, slice_index, if◌then◌else◌}
use Rattle.std.proofs.lemmas.Bool.{cases_Bool, le-leb, lt-leb, and_left}
use Rattle.g704_framing.specs.Alignment.{later}
use Rattle.g704_framing.proofs.Leasts.{IsLeast, least_equals, le-suc, least-later}
use Rattle.g704_align.specs.Search.{is_fas, search, after_fas, SearchMeetsLeast}

-- the first FAS octet from a position on
abbrev first_fas : List ℕ → ℕ → Option ℕ
first_fas [] from = None
first_fas (x ∷ s) (suc from) = later (first_fas s from)
first_fas (x ∷ s) zero = if is_fas x then Some 0 else later (first_fas s 0)

-- the search from a position on meets a FAS octet here
abbrev meets : List ℕ → ℕ → ℕ → Bool
meets s from k = nat_le from k && is_fas (slice_index s k)

-- it is the least
first_fas-least : (s : List ℕ) (from : ℕ) → IsLeast (meets s from) (length s) (first_fas s from)
first_fas-least [] from = λ k lt. absurd (omega arith)
first_fas-least (x ∷ s) (suc from) =
    least-later (meets s from) (meets (x ∷ s) (suc from)) (length s) (first_fas s from)
    (and_left _ _ (lt-leb (suc from) 0 (omega arith)))
    (λ k. ap (λ late. late && is_fas (slice_index s k)) (le-suc from k))
    (first_fas-least s from)
first_fas-least (x ∷ s) zero = grind (arith, cases_Bool (is_fas x), le-leb 0 0 (omega arith), first_fas-least s 0)

-- what a search finds that has met its first FAS octet does not depend on the origin of positions
after_fas-later : (x : ℕ) (s : List ℕ) (o : Option ℕ) → later (after_fas s o) ≡ after_fas (x ∷ s) (later o)
unfolding search
after_fas-later x s None = refl
after_fas-later x s (Some k) =
    let a : suc k + 32 ≡ suc (k + 32) = omega arith in
    let b : suc k + 64 ≡ suc (k + 64) = omega arith in
    let c : suc k + 33 ≡ suc (k + 33) = omega arith in
    let d : suc k + 65 ≡ suc (k + 65) = omega arith in
    grind arith

-- the search goes on from the first FAS octet
search-meets : (s : List ℕ) (from : ℕ) → search s from ≡ after_fas s (first_fas s from)
unfolding search
search-meets [] from = refl
search-meets (x ∷ s) (suc from) = ap later (search-meets s from) ∙ after_fas-later x s (first_fas s from)
search-meets (x ∷ s) zero = grind (arith, cases_Bool (is_fas x), search-meets s 0, after_fas-later x s (first_fas s 0))

-- the law
pub search_meets_least : SearchMeetsLeast
search_meets_least s from =
    search-meets s from
    ∙ ap (after_fas s) (sym (least_equals (meets s from) (length s) (first_fas s from) (first_fas-least s from)))
