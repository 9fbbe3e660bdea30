-- The laws of places, of the slots of frames.
use Rattle.std.proofs.Common.{◌≡◌, ℕ, Bool, Option, Some, None, refl, arith}
use Rattle.g704_framing.specs.Laws.{IsRead}
use Rattle.g704_framing.specs.Places.{IsPlacing, PlacesAreSettled, PlacesAreAlike, OtherPlacesAreNotRead}
use Rattle.g704_framing.proofs.Placings.{places_are_settled, places_are_alike, other_places_are_not_read}
use Rattle.g704_align.specs.declared.alignment.Place.TheVariants.{Hunting, Slot}
use Rattle.g704_align.specs.Loss.{frame_alignment}
use Rattle.g704_align.specs.Placing.{place_of, number_of, frames}
use Rattle.g704_align.proofs.Wrongs.{is_third_wrong-alike}
use Rattle.g704_align.proofs.Searches.{frame_is_framing}

-- an octet whole frames from the first one of its alignment is in slot 0
slot_zero : (age : Option ℕ) → IsRead frame_alignment age → number_of (place_of age) ≡ 0
slot_zero None read = refl
slot_zero (Some age) read = read

-- an octet that has no slot has no age in an alignment
pub no-age : (age : Option ℕ) → place_of age ≡ Hunting → age ≡ None
no-age None e = refl
no-age (Some n) e = cc

-- and one that has a slot has an age
pub some-age : (age : Option ℕ) (number : ℕ) (fas : Bool) → place_of age ≡ Slot number fas → (n : ℕ) × (age ≡ Some n)
some-age None number fas e = cc
some-age (Some n) number fas e = (n, refl)

-- the slots of frames are places as the laws need them
frames_are_placed : IsPlacing frames
frames_are_placed = grind (arith, frame_is_framing, is_third_wrong-alike, slot_zero)

-- no later octet moves the slot of an octet, or changes the alarm that stood
pub place_append : PlacesAreSettled frames
place_append = places_are_settled frames frames_are_placed

-- streams that are aligned alike have the same alignments, slots and alarms
pub place_alike : PlacesAreAlike frames
place_alike = places_are_alike frames frames_are_placed

-- no search and no loss reads an octet of another slot than 0: streams that differ only there are placed alike
pub alike_kept : OtherPlacesAreNotRead frames
alike_kept = other_places_are_not_read frames frames_are_placed
