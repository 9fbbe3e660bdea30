-- The laws of places.
use Rattle.std.proofs.Common.{rules, ℕ, List, drop, arith}
use Rattle.std.proofs.lemmas.Grind.{common_steps}
use Rattle.g704_framing.proofs.Common.{All-weaker, AlignmentSpan, age_in, IsLostAlike}
use Rattle.g704_framing.specs.Places.{PlaceRules, alignments_in, place_in, alarm_in, IsAlikeAlong, IsPlacing}
use Rattle.g704_framing.specs.Places.{PlacesAreSettled, PlacesAreAlike, OtherPlacesAreNotRead}
use Rattle.g704_framing.proofs.Settles.{ages_are_settled}
use Rattle.g704_framing.proofs.Agrees.{alignments_are_alike}
use Rattle.g704_framing.proofs.Keeps.{others_are_not_read}

-- no later octet moves a place or changes an alarm
pub places_are_settled : {Place : Type 0} (placing : PlaceRules Place) → IsPlacing placing → PlacesAreSettled placing
unfolding place_in alarm_in
places_are_settled p is s t n lt = search (rules, ages_are_settled)

-- streams whose octets that keep an alignment are right or wrong alike lose it alike
lost_alike : {Place : Type 0} (p : PlaceRules Place) → IsPlacing p → (s t : List ℕ) (d : AlignmentSpan)
    → IsAlikeAlong p s t d → IsLostAlike p.framing s t d
lost_alike p is s t d alike k lt up = is.lost (drop d.start s) (drop d.start t) k (grind (arith, common_steps))

-- streams that are aligned alike have the same alignments, places and alarms
pub places_are_alike : {Place : Type 0} (placing : PlaceRules Place) → IsPlacing placing → PlacesAreAlike placing
unfolding place_in alarm_in
places_are_alike p is s t alike = search (rules, alignments_are_alike, All-weaker, lost_alike)

-- streams that differ only in octets of other numbers are aligned alike
pub other_places_are_not_read : {Place : Type 0} (placing : PlaceRules Place) → IsPlacing placing
    → OtherPlacesAreNotRead placing
unfolding place_in
other_places_are_not_read p is s t keeps =
    let kept = others_are_not_read p.framing is.framing s t p.placed_from is.found keeps.len
    (λ n lt read. keeps.kept n lt (is.zero (age_in p.placed_from (alignments_in p s) n) read)) in
    grind arith
