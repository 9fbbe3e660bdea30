-- The laws of places, of the frames of a multiframe.
use Rattle.std.proofs.Common.{rules, ◌≡◌, ℕ, Option, Some, None, refl}
use Rattle.g704_framing.specs.Laws.{IsRead}
use Rattle.g704_framing.specs.Places.{IsPlacing, PlacesAreSettled, PlacesAreAlike, OtherPlacesAreNotRead}
use Rattle.g704_framing.proofs.Placings.{places_are_settled, places_are_alike, other_places_are_not_read}
use Rattle.g704_cas.specs.Loss.{multiframe_alignment}
use Rattle.g704_cas.specs.Placing.{place_of, frame_of, multiframes}
use Rattle.g704_cas.proofs.Wrongs.{is_second_wrong-alike}
use Rattle.g704_cas.proofs.Searches.{multiframe_is_framing}

-- an octet whole multiframes from the first one of its alignment is in frame 0
frame_zero : (age : Option ℕ) → IsRead multiframe_alignment age → frame_of (place_of age) ≡ 0
frame_zero None read = refl
frame_zero (Some age) read = read

-- the frames of a multiframe are places as the laws need them
multiframes_are_placed : IsPlacing multiframes
multiframes_are_placed = search (rules, multiframe_is_framing, is_second_wrong-alike, frame_zero)

-- no later octet moves the frame of an octet, or changes the alarm that stood
pub place_append : PlacesAreSettled multiframes
place_append = places_are_settled multiframes multiframes_are_placed

-- streams that are aligned alike have the same alignments, frames and alarms
pub place_alike : PlacesAreAlike multiframes
place_alike = places_are_alike multiframes multiframes_are_placed

-- no search and no loss reads an octet of another frame than 0: streams that differ only there are placed alike
pub alike_kept : OtherPlacesAreNotRead multiframes
alike_kept = other_places_are_not_read multiframes multiframes_are_placed
