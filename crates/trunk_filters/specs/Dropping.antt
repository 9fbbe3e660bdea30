-- What a dropper of slots 0 has returned.
use Rattle.std.specs.Prelude.{◌≡◌, ◌<◌, ℕ, ◌+◌, ◌-◌, ◌%◌, if◌then◌else◌, true, false, List, [], ◌∷◌, ◌++◌}
use Rattle.std.specs.Prelude.{length}
use Rattle.trunk_filters.specs.Frames.{device_frames, from_frame}
use Rattle.trunk_filters.specs.declared.begun.BegunFrame.{BegunFrame}

-- how many octets of the frame have come
abbrev pub begun_count : BegunFrame → ℕ
begun_count frame = if frame.zero then length frame.octets.items + 1 else 0

-- A dropper whose first octet was at this place has taken these octets and returned these, and has the frame
-- that has begun.
pub record HasFramed (frame : BegunFrame) (place : ℕ) (taken returned : List ℕ) : Type 0 where
  pub returned_are : returned ≡ device_frames place taken
  pub before : frame.before ≡ (32 - place % 32) % 32 - length taken
  -- whole frames, and the octets of the one that has begun
  pub frames : List ℕ
  pub rest : List ℕ
  pub from : from_frame place taken ≡ frames ++ rest
  pub whole : length frames % 32 ≡ 0
  pub short : length rest < 32
  pub none : frame.zero ≡ false → rest ≡ []
  pub some : frame.zero ≡ true → (first : ℕ) × (rest ≡ first ∷ frame.octets.items)
