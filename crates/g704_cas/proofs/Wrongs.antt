-- Wrong octets of frame 0, and the loss.
use Rattle.std.proofs.Common.{rules, ◌≡◌, ℕ, ◌-◌, ◌<◌, ◌≤◌, ◌%◌, List, [], ◌∷◌, ◌++◌, length, true, false, refl, ap}
use Rattle.std.proofs.Common.{arith, not}
use Rattle.std.specs.Prelude.{slice_index, ◌≢◌}
use Rattle.std.proofs.lemmas.List.{get_or_append_left, get_or_push}
use Rattle.std.proofs.lemmas.Bool.{ne_eqb, and_left, cases_eq}
use Rattle.g704_cas.specs.Search.{is_mfas}
use Rattle.g704_cas.specs.Loss.{is_wrong, is_second_wrong}

-- no octet of another frame is wrong
pub is_wrong-other : (octets : List ℕ) (k : ℕ) → k % 16 ≢ 0 → is_wrong octets k ≡ false
unfolding is_wrong
is_wrong-other octets k other = and_left _ _ (ne_eqb (k % 16) 0 other)

-- nor the octet by which alignment is found
pub is_wrong-first : (octets : List ℕ) → is_mfas (slice_index octets 0) ≡ true → is_wrong octets 0 ≡ false
unfolding is_wrong
is_wrong-first octets right = rw right refl

-- the last octet of a frame 0
pub is_wrong-last : (c : List ℕ) (x : ℕ) → length c % 16 ≡ 0 → is_wrong (c ++ x ∷ []) (length c) ≡ not (is_mfas x)
unfolding is_wrong
is_wrong-last c x r = rw (r, get_or_push c x 0 (length c) refl) refl

-- two alignments are wrong alike at a place if their octets are right alike
pub is_wrong-alike : (octets others : List ℕ) (k : ℕ)
    → (k % 16 ≡ 0 → is_mfas (slice_index octets k) ≡ is_mfas (slice_index others k))
    → is_wrong octets k ≡ is_wrong others k
unfolding is_wrong
is_wrong-alike octets others k alike = grind (arith, cases_eq (k % 16) 0)

-- up to a place
pub is_second_wrong-alike : (octets others : List ℕ) (k : ℕ)
    → ((j : ℕ) → j ≤ k → j % 16 ≡ 0 → is_mfas (slice_index octets j) ≡ is_mfas (slice_index others j))
    → is_second_wrong octets k ≡ is_second_wrong others k
is_second_wrong-alike octets others k alike = search (rules, is_wrong-alike)

-- an alignment is lost by octets of frame 0 only
pub is_second_wrong-reads : (octets others : List ℕ) (k : ℕ)
    → ((j : ℕ) → j ≤ k → j % 16 ≡ 0 → slice_index octets j ≡ slice_index others j)
    → is_second_wrong octets k ≡ is_second_wrong others k
is_second_wrong-reads octets others k same = is_second_wrong-alike octets others k (λ j le e. ap is_mfas (same j le e))

-- whether an octet is wrong does not depend on later ones
pub is_wrong-append : (c t : List ℕ) (k : ℕ) → k < length c → is_wrong (c ++ t) k ≡ is_wrong c k
is_wrong-append c t k h = is_wrong-alike (c ++ t) c k (λ e. ap is_mfas (get_or_append_left c t 0 k h))
