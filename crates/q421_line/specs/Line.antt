-- The history of a line: the signals, commands and waits that it received, by its fields.
use Rattle.std.specs.Prelude.{◌≡◌, ℕ, min, List, reverse, slice_get, Some}
use Rattle.q421_line.specs.declared.Role.{Role}
use Rattle.q421_line.specs.declared.recognition.Recognition.{Recognition}
use Rattle.q421_line.specs.declared.signalling.Line.{Line}
use Rattle.q421_line.specs.Recognition.{run_of, recognised}
use Rattle.q421_line.specs.Signalling.{LineEvent, signalling}

-- the fields after these known pairs: the last one, the number of equal ones at the end, up to ten, and the
-- recognised pair
pub record HasHeard (recognition : Recognition) (pairs : List ℕ) : Type 0 where
  pub latest_is : recognition.latest ≡ slice_get (reverse pairs) 0
  pub run_is : (pair : ℕ) → recognition.latest ≡ Some pair → recognition.run ≡ min 10 (run_of pair pairs)
  pub recognised_is : recognition.recognised ≡ recognised pairs

-- A line in this role has this history: its fields are those of its signalling.
pub record HasHistory (line : Line) (role : Role) (items : List LineEvent) : Type 0 where
  pub role_is : line.role ≡ role
  pub state_is : line.state ≡ (signalling role items).state
  pub seized_for_is : line.seized_for ≡ (signalling role items).seized_for
  pub released_after_is : line.released_after ≡ (signalling role items).released_after
  pub heard : HasHeard line.recognition (signalling role items).pairs
