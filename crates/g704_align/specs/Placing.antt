-- The slot and the frame of each octet, and the alarm.
use Rattle.std.specs.Prelude.{ℕ, ◌-◌, ◌/◌, ◌%◌, Bool, ◌==◌, List, length, Option, Some, None}
use Rattle.g704_framing.specs.Places.{PlaceRules, place_in, alarm_in}
use Rattle.g704_align.specs.declared.alignment.Place.{Place}
use Rattle.g704_align.specs.declared.alignment.Place.TheVariants.{Hunting, Slot}
use Rattle.g704_align.specs.Loss.{is_expected, frame_alignment}

-- the place of an octet with this age: even frames have the FAS octet
abbrev pub place_of : Option ℕ → Place
place_of None = Hunting
place_of (Some age) = Slot (age % 32) ((age / 32) % 2 == 0)

-- the slot of a place, 0 without alignment
abbrev pub number_of : Place → ℕ
number_of Hunting = 0
number_of (Slot number fas) = number

-- The slots of frames: octets after the search have places until the loss, and those of slot 0 keep the
-- alignment.
abbrev pub frames : PlaceRules Place
frames = record {
  framing = frame_alignment;
  placed_from = 65;
  place_of = place_of;
  number_of = number_of;
  is_right = is_expected;
}

-- the place of the octet at a position of the stream
abbrev pub place : List ℕ → ℕ → Place
place stream position = place_in frames stream position

-- the alarm after the octet at a position (ITU-T G.706, 4.1)
abbrev pub alarm : List ℕ → ℕ → Bool
alarm stream position = alarm_in frames stream position

-- the alarm after all these octets; it is on before the first
abbrev pub alarm_after : List ℕ → Bool
alarm_after stream = alarm stream (length stream - 1)
