-- The frame of each octet of time slot 16, and the alarm.
use Rattle.std.specs.Prelude.{ℕ, ◌-◌, ◌%◌, Bool, List, length, Option, Some, None}
use Rattle.g704_framing.specs.Places.{PlaceRules, place_in, alarm_in}
use Rattle.g704_cas.specs.declared.alignment.MfPlace.{MfPlace}
use Rattle.g704_cas.specs.declared.alignment.MfPlace.TheVariants.{Hunting, Frame}
use Rattle.g704_cas.specs.Search.{is_mfas}
use Rattle.g704_cas.specs.Loss.{multiframe_alignment}

-- the place of an octet with this age
abbrev pub place_of : Option ℕ → MfPlace
place_of None = Hunting
place_of (Some age) = Frame (age % 16)

-- the frame of a place, 0 without alignment
abbrev pub frame_of : MfPlace → ℕ
frame_of Hunting = 0
frame_of (Frame number) = number

-- The frames of a multiframe: octets have places from the first of an alignment to its loss, and those of
-- frame 0 keep the alignment.
abbrev pub multiframes : PlaceRules MfPlace
multiframes = record {
  framing = multiframe_alignment;
  placed_from = 0;
  place_of = place_of;
  number_of = frame_of;
  is_right = λ age octet. is_mfas octet;
}

-- the place of the octet at a position
abbrev pub place : List ℕ → ℕ → MfPlace
place octets position = place_in multiframes octets position

-- the alarm after the octet at a position
abbrev pub alarm : List ℕ → ℕ → Bool
alarm octets position = alarm_in multiframes octets position

-- the alarm after all these octets; it is on before the first
abbrev pub alarm_after : List ℕ → Bool
alarm_after octets = alarm octets (length octets - 1)
