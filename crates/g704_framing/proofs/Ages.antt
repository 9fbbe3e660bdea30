-- Ages in a stream that restarts after some octets.
use Rattle.std.proofs.Common.{rules, ◌≡◌, ℕ, suc, ◌+◌, ◌-◌, ◌<◌, ◌≤◌, List, [], ◌∷◌, ◌++◌, length, map, false, Option}
use Rattle.std.proofs.Common.{Some, None, refl, arith, leb}
use Rattle.g704_framing.proofs.Common.{option_map, lt-leb, le-leb, and_left, and_right, nat_tests, Framing}
use Rattle.g704_framing.proofs.Common.{AlignmentSpan, alignments_from, is_before_loss, is_standing, age_in, moved}
use Rattle.g704_framing.proofs.Common.{IsLostBefore, AllLostBefore, RestartsAfter, last_of}
use Rattle.std.proofs.lemmas.List.{append-nil}
use Rattle.g704_framing.proofs.Moves.{map-moved_zero}

-- comparing positions does not depend on their origin
leb-move : (m a b : ℕ) → leb (m + a) (m + b) ≡ leb a b
leb-move m a b = grind (arith, nat_tests)

-- nor whether a position comes before a loss
before_loss-moved : (m n : ℕ) (o : Option ℕ) → is_before_loss (m + n) (option_map (λ k. m + k) o) ≡ is_before_loss n o
before_loss-moved m n o = search rules

-- nor whether there is an alignment
standing-moved : (a m n : ℕ) (d : AlignmentSpan) → is_standing a (moved m d) (m + n) ≡ is_standing a d n
standing-moved a m n d = grind (arith, leb-move m (d.start + a) n, before_loss-moved m n d.lost)

-- ages do not depend on the origin of positions
pub age_in-moved : (a m n : ℕ) (ds : List AlignmentSpan) → age_in a (map (moved m) ds) (m + n) ≡ age_in a ds n
age_in-moved a m n [] = refl
age_in-moved a m n (d ∷ ds) = grind (arith, standing-moved a m n d, age_in-moved a m n ds)

-- an alignment that is lost before a position is not before its loss there
lost_before : (m n : ℕ) (o : Option ℕ) → m ≤ suc n → IsLostBefore m o → is_before_loss n o ≡ false
lost_before m n o h g = search rules

-- alignments that are lost by then give no octet an age
pub age_in-over : (a m n : ℕ) (ds es : List AlignmentSpan) → m ≤ suc n → AllLostBefore m ds
    → age_in a (ds ++ es) n ≡ age_in a es n
age_in-over a m n [] es h g = refl
age_in-over a m n (d ∷ ds) es h g = cc (and_right _ _ (lost_before m n d.lost h g.0), age_in-over a m n ds es h g.1)

-- an alignment that begins at m or later gives no age to an octet before m + a
pub age_in-early : (a m n : ℕ) (ds : List AlignmentSpan) → n < m + a → age_in a (map (moved m) ds) n ≡ None
age_in-early a m n [] h = refl
age_in-early a m n (d ∷ ds) h = cc (and_left _ _ (lt-leb (m + d.start + a) n (omega arith)), age_in-early a m n ds h)

-- the ages in a stream whose first part is over
pub age-over : (framing : Framing) (before : Option ℕ) (octets rest : List ℕ) (first position : ℕ)
    → RestartsAfter framing before octets
    → age_in first (alignments_from framing before (octets ++ rest) 0) (length octets + position)
    ≡ age_in first (alignments_from framing (last_of before octets) rest 0) position
age-over f b c t a n over = search (rules, age_in-over, age_in-moved)

-- at the last octet of a history that is over
pub age-at_over : (framing : Framing) (before : Option ℕ) (octets : List ℕ) (first position : ℕ)
    → RestartsAfter framing before octets → length octets ≤ suc position
    → age_in first (alignments_from framing before octets 0) position ≡ None
unfolding alignments_from
age-at_over f b c a n over h = grind (arith, append-nil c, age_in-over a (length c) n over.earlier [] h over.all_lost)

-- before the octet by which the first alignment can be found
pub age-early : (framing : Framing) (before : Option ℕ) (octets : List ℕ) (first position : ℕ) → position < first
    → age_in first (alignments_from framing before octets 0) position ≡ None
age-early f b c a n h =
    cc (map-moved_zero (alignments_from f b c 0), age_in-early a 0 n (alignments_from f b c 0) (omega arith))

-- in an alignment at the head of the stream that is not lost
pub age-standing : (first position : ℕ) (alignments : List AlignmentSpan)
    → alignments ≡ record { start = 0; lost = None } ∷ [] → first ≤ position
    → age_in first alignments position ≡ Some position
age-standing a n ds e h = grind (arith, le-leb a n h)
