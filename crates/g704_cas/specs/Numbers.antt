-- The places of a circuit's speech and ABCD bits on the trunk.
use Rattle.std.specs.Prelude.{◌≢◌, ℕ, ◌+◌, ◌-◌, ◌<◌, nat_le, if◌then◌else◌}

-- the time slot of a circuit's speech: slot 16 is not for speech (ITU-T G.704, 5.1.3.2)
abbrev pub slot_of : ℕ → ℕ
slot_of circuit = if nat_le circuit 15 then circuit else circuit + 1

-- a time slot of speech: one of the 32 of a frame, but not slot 0, of frame alignment, nor slot 16, of
-- signalling (ITU-T G.704, 5.1.3.2)
pub record IsSpeechSlot (slot : ℕ) : Type 0 where
  pub in_frame : slot < 32
  pub not_alignment : slot ≢ 0
  pub not_signalling : slot ≢ 16

-- the circuit whose speech is in a speech slot
abbrev pub circuit_in : ℕ → ℕ
circuit_in slot = if nat_le slot 15 then slot else slot - 1

-- the frame of the multiframe whose slot 16 has the circuit's ABCD bits (ITU-T G.704, 5.1.3.2):
-- in the high nibble for the circuits 1 to 15, in the low one for 16 to 30
abbrev pub frame_with : ℕ → ℕ
frame_with circuit = if nat_le circuit 15 then circuit else circuit - 15
