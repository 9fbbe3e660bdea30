-- What a receiver has made of the octets of a device, and how a device is read for it.
use Rattle.std.specs.Prelude.{◌≡◌, ℕ, ◌+◌, ◌*◌, ◌/◌, ◌%◌, ◌==◌, if◌then◌else◌, min, max, List, [], ◌∷◌}
use Rattle.std.specs.Prelude.{length}
use Rattle.e1_g711.specs.declared.Law.{Law}
use Rattle.e1_g711.specs.Law.{idle_code}
use Rattle.g704_slots.specs.Mover.{HasHistory}
use Rattle.trunk_filters.specs.Frames.{slot_0, first_of, whole_trunk}
use Rattle.trunk_filters.specs.declared.receiving.SlotReceiver.{SlotReceiver}

-- slot 0 if a frame begins at this place in two frames
abbrev pub begun_by : ℕ → List ℕ
begun_by place = if place % 32 == 0 then slot_0 place ∷ [] else []

-- A receiver of a trunk of this law whose first octet is at this place in a multiframe has taken these
-- octets, and made these for them.
pub record HasMadeWhole (receiver : SlotReceiver) (law : Law) (place : ℕ) (taken made : List ℕ) : Type 0 where
  pub history : HasHistory receiver.mover (first_of place) taken
  pub idle : receiver.mover.idle ≡ idle_code law
  pub place_is : receiver.place ≡ (place + length made) % 64
  pub made_are : made ≡ whole_trunk law place taken

-- the octets of the longest read of a device, 64 frames of 31, and of what is made of one, with those of a
-- frame before and behind
abbrev pub longest_read : ℕ
longest_read = 1984

abbrev pub longest_made : ℕ
longest_made = 2112

-- how many octets of a device are read for this room: those of the whole frames that fit, 64 at most
abbrev pub most_read : ℕ → ℕ
most_read room = min longest_read (max 1 (room / 32 * 31))
