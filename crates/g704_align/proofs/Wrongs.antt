-- Wrong octets of slot 0, and the loss.
use Rattle.std.proofs.Common.{◌≡◌, ℕ, ◌-◌, ◌<◌, ◌≤◌, ◌%◌, List, ◌++◌, length, false, refl, ap, arith, not}
use Rattle.std.specs.Prelude.{slice_index, nat_lt, ◌≢◌}
use Rattle.std.proofs.lemmas.List.{get_or_append_left}
use Rattle.std.proofs.lemmas.Bool.{lt-ltb, le-ltb, ne_eqb, cases_eq, cases_lt}
use Rattle.g704_align.specs.Search.{is_fas, is_nfas}
use Rattle.g704_align.specs.Loss.{is_expected, is_wrong, is_third_wrong}

-- what the octet at a place of slot 0 decides
pub is_wrong-fas : (octets : List ℕ) (k : ℕ) → 64 < k → k % 64 ≡ 0
    → is_wrong octets k ≡ not (is_fas (slice_index octets k))
unfolding is_wrong
is_wrong-fas octets k h e = grind (arith, lt-ltb 64 k h)

-- in an odd frame
pub is_wrong-nfas : (octets : List ℕ) (k : ℕ) → 64 < k → k % 64 ≡ 32
    → is_wrong octets k ≡ not (is_nfas (slice_index octets k))
unfolding is_wrong
is_wrong-nfas octets k h e = grind (arith, lt-ltb 64 k h)

-- no octet of the search is wrong
pub is_wrong-early : (octets : List ℕ) (k : ℕ) → k ≤ 64 → is_wrong octets k ≡ false
unfolding is_wrong
is_wrong-early octets k h = let l : nat_lt 64 k ≡ false = le-ltb 64 k h in rw l refl

-- and none of another slot
pub is_wrong-other : (octets : List ℕ) (k : ℕ) → k % 32 ≢ 0 → is_wrong octets k ≡ false
unfolding is_wrong
is_wrong-other octets k other = grind (arith, ne_eqb (k % 32) 0 other)

-- two alignments are wrong alike at a place if their octets are right alike
pub is_wrong-alike : (octets others : List ℕ) (k : ℕ)
    → (64 < k → k % 32 ≡ 0 → is_expected k (slice_index octets k) ≡ is_expected k (slice_index others k))
    → is_wrong octets k ≡ is_wrong others k
unfolding is_wrong
is_wrong-alike octets others k alike = grind (arith, cases_eq (k % 32) 0, cases_lt 64 k)

-- up to a place
pub is_third_wrong-alike : (octets others : List ℕ) (k : ℕ)
    → ((j : ℕ) → j ≤ k → 64 < j → j % 32 ≡ 0
    → is_expected j (slice_index octets j) ≡ is_expected j (slice_index others j))
    → is_third_wrong octets k ≡ is_third_wrong others k
is_third_wrong-alike octets others k alike =
    rw (
      is_wrong-alike octets others k (alike k (omega arith)),
      is_wrong-alike octets others (k - 64) (alike (k - 64) (omega arith)),
      is_wrong-alike octets others (k - 128) (alike (k - 128) (omega arith)),
    ) refl

-- whether an octet is wrong does not depend on later ones
pub is_wrong-append : (c t : List ℕ) (k : ℕ) → k < length c → is_wrong (c ++ t) k ≡ is_wrong c k
unfolding is_wrong
is_wrong-append c t k h = rw (get_or_append_left c t 0 k h) refl

-- an alignment is lost by octets of slot 0 only
pub is_third_wrong-reads : (octets others : List ℕ) (k : ℕ)
    → ((j : ℕ) → j ≤ k → j % 32 ≡ 0 → slice_index octets j ≡ slice_index others j)
    → is_third_wrong octets k ≡ is_third_wrong others k
is_third_wrong-reads octets others k same =
    is_third_wrong-alike octets others k (λ j le late e. ap (is_expected j) (same j le e))
