-- The octets of a saved line, without its role: a line that is loaded has the role of its configuration.
use Rattle.std.specs.Prelude.{ℕ, List, [], ◌∷◌, ◌++◌, Option, Some, None, ◌<◌, ◌^◌, IfSome}
use Rattle.saved_octets.specs.Numbers.{two_octets}
use Rattle.q421_line.specs.declared.State.{State}
use Rattle.q421_line.specs.declared.State.TheVariants.{Idle, Seized, Acked, Answered, ClearedBack, Releasing}
use Rattle.q421_line.specs.declared.State.TheVariants.{Blocked, Fault}
use Rattle.q421_line.specs.declared.recognition.Recognition.{Recognition}
use Rattle.q421_line.specs.declared.signalling.Line.{Line}

-- the number of a state, in the order of the variants
abbrev pub state_number : State → ℕ
state_number Idle = 0
state_number Seized = 1
state_number Acked = 2
state_number Answered = 3
state_number ClearedBack = 4
state_number Releasing = 5
state_number Blocked = 6
state_number Fault = 7

-- a pair, or 4 if there is none
abbrev pub saved_pair : Option ℕ → ℕ
saved_pair None = 4
saved_pair (Some pair) = pair

-- the latest pair, the length of its run, the recognised pair
abbrev pub saved_recognition : Recognition → List ℕ
saved_recognition r = saved_pair r.latest ∷ r.run ∷ saved_pair r.recognised ∷ []

-- the signals that the seizure has lasted, and the number that releases it
abbrev pub saved_seizure : Line → List ℕ
saved_seizure line = two_octets line.seized_for ++ two_octets line.released_after

-- the state, the seizure, the recognition
abbrev pub saved_line : Line → List ℕ
saved_line line = state_number line.state ∷ saved_seizure line ++ saved_recognition line.recognition

-- each pair has two bits, as in every line
pub record PairsFit (r : Recognition) : Type 0 where
  pub latest : IfSome r.latest (λ pair. pair < 4)
  pub recognised : IfSome r.recognised (λ pair. pair < 4)

-- and the signals of a seizure are 16-bit numbers
pub record LineFits (line : Line) : Type 0 where
  pub pairs : PairsFit line.recognition
  pub seized_for : line.seized_for < 2 ^ 16
  pub released_after : line.released_after < 2 ^ 16
