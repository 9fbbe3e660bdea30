-- The octets of slots 1 to 31 with slot 16 in its place.
use Rattle.std.specs.Prelude.{◌≡◌, ◌≤◌, ℕ, ◌+◌, ◌-◌, ◌%◌, ◌==◌, if◌then◌else◌, List, [], ◌∷◌, ◌++◌, length}
use Rattle.std.specs.Prelude.{slice_index, suc, Option, Some, None, option_map}
use Rattle.g704_framing.specs.Alignment.{alignments_of}
use Rattle.g704_framing.specs.Age.{age_in}
use Rattle.g704_slots.specs.Loss.{slot_16}

-- how many octets came since the four multiframes began with which slot 16 was found; none while it is
-- searched for
abbrev pub age : List ℕ → ℕ → Option ℕ
age octets position = age_in 1984 (alignments_of slot_16 octets) position

-- the slot of an octet by its place in frames of 31 octets
abbrev pub slot_at : ℕ → ℕ
slot_at place = place % 31 + 1

-- the octet of a slot in silence: ones without a signal in slot 16
abbrev pub silence : ℕ → ℕ → ℕ
silence idle slot = if slot == 16 then 0xff else idle

-- by how many octets others are delayed so that one of slot 16 that comes at this place comes in slot 16
abbrev pub delay : ℕ → ℕ
delay place = (46 - place % 31) % 31

-- By how many octets others are delayed behind these, of which the first is at this place; none while slot 16
-- is searched for.
abbrev pub late_after : ℕ → List ℕ → Option ℕ
late_after first octets =
    option_map (λ n. delay (first + (length octets - suc n))) (age octets (length octets - 1))

-- The octet returned at the place of the last of these, if slot 16 has this age there: the one that came
-- before it by the delay, or silence. The first one is at this place in frames of slots 1 to 31.
abbrev pub shown_at : ℕ → ℕ → List ℕ → ℕ → Option ℕ → ℕ
shown_at idle first octets position None = silence idle (slot_at (first + position))
shown_at idle first octets position (Some age) =
    slice_index octets (position - delay (first + (position - age)))

-- the octet returned for the one after these
abbrev pub slots_reply : ℕ → ℕ → List ℕ → ℕ → ℕ
slots_reply idle first before octet =
    shown_at idle first (before ++ octet ∷ []) (length before) (age (before ++ octet ∷ []) (length before))

-- The octet that is returned at a place came as many octets behind one of slot 16 as this place is behind
-- slot 16, modulo a frame.
abbrev pub SlotsAreInPlace : Type 0
SlotsAreInPlace = (first position age : ℕ) → 1984 ≤ age → age ≤ position
    → (((position - delay (first + (position - age))) - (position - age)) + 15) % 31 ≡ (first + position) % 31
