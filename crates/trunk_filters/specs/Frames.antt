-- The frames of a trunk whose device has slots 1 to 31 alone: 31 octets for the 32 of each frame
-- (ITU-T G.704, 2.3).
use Rattle.std.specs.Prelude.{ℕ, ◌+◌, ◌-◌, ◌*◌, ◌/◌, ◌%◌, ◌==◌, if◌then◌else◌, List, [], ◌∷◌, length, take}
use Rattle.std.specs.Prelude.{drop, Option}
use Rattle.e1_g711.specs.declared.Law.{Law}
use Rattle.e1_g711.specs.Law.{idle_code}
use Rattle.g704_framing.specs.Replies.{stream_replies}
use Rattle.g704_slots.specs.Shown.{late_after, slots_reply}

-- Slot 0 of a frame that begins at this place, in two frames: with the frame alignment signal, or without;
-- all spare bits are one (ITU-T G.704, 2.3.2).
abbrev pub slot_0 : ℕ → ℕ
slot_0 place = if place % 64 == 0 then 0x9b else 0xdf

-- octets of slots 1 to 31 behind those of slot 0, from this place in two frames on
unfoldable pub with_slot_0 : ℕ → List ℕ → List ℕ
with_slot_0 place [] = []
with_slot_0 place (octet ∷ octets) =
    if place % 32 == 0
    then slot_0 place ∷ octet ∷ with_slot_0 (place + 2) octets
    else octet ∷ with_slot_0 (place + 1) octets

-- the place of the next octet, in frames of slots 1 to 31
abbrev pub first_of : ℕ → ℕ
first_of place = place % 32 - 1

-- What comes, for what the device gave: slots 0 from a place in two frames on, and between them each octet in
-- its slot, or silence.
abbrev pub whole_trunk : Law → ℕ → List ℕ → List ℕ
whole_trunk law place octets =
    with_slot_0 place (stream_replies (slots_reply (idle_code law) (first_of place)) octets)

-- by how many octets others are delayed behind these; none while slot 16 is searched for
abbrev pub late_from : ℕ → List ℕ → Option ℕ
late_from place octets = late_after (first_of place) octets

-- octets without those of slot 0, the first one at this place
unfoldable pub without_slot_0 : ℕ → List ℕ → List ℕ
without_slot_0 place [] = []
without_slot_0 place (octet ∷ octets) =
    if place % 32 == 0
    then without_slot_0 (place + 1) octets
    else octet ∷ without_slot_0 (place + 1) octets

-- The octets from the first frame on that begins at this place or behind it.
abbrev pub from_frame : ℕ → List ℕ → List ℕ
from_frame place octets = drop ((32 - place % 32) % 32) octets

-- What a device is sent of octets from this place on: slots 1 to 31 of each whole frame.
abbrev pub device_frames : ℕ → List ℕ → List ℕ
device_frames place octets =
    without_slot_0 0 (take (32 * (length (from_frame place octets) / 32)) (from_frame place octets))
