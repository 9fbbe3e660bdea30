-- The settings and the calls of a playout.
use Rattle.std.specs.Prelude.{◌≡◌, ◌≤◌, ◌%◌, ℕ, List, [], ◌∷◌, Bool, if◌then◌else◌, Option, Some, None}
use Rattle.std.specs.Prelude.{Result, Ok, Err}
use Rattle.satop_playout.specs.declared.ArrivalFault.{ArrivalFault}
use Rattle.satop_playout.specs.declared.ArrivalFault.TheVariants.{OtherSize, NotBegun, Late, TooFar, Repeat}

-- whole frames of an E1, 1 to 40 of them
abbrev pub IsSize : ℕ → Type 0
IsSize size = (32 ≤ size) × (size ≤ 1280) × (size % 32 ≡ 0)

-- packets that may be waited for
abbrev pub IsWindow : ℕ → Type 0
IsWindow window = (1 ≤ window) × (window ≤ 1024)

-- A stream begins, and the packet with this number is played next; a packet with this number and these octets
-- arrives; or the next packet is played.
pub data PlayoutCall : Type 0 where
  Begins : ℕ → PlayoutCall
  Arrives : ℕ → List ℕ → PlayoutCall
  Plays : PlayoutCall

-- the number of a fault, in order of precedence
abbrev pub fault_number : ArrivalFault → ℕ
fault_number OtherSize = 1
fault_number NotBegun = 2
fault_number Late = 3
fault_number TooFar = 4
fault_number Repeat = 5

-- the first fault whose cause applies
abbrev pub first_fault : List (Bool × ArrivalFault) → Option ArrivalFault
first_fault [] = None
first_fault (cause ∷ causes) = if cause.0 then Some cause.1 else first_fault causes

-- the answer to an arrival with this fault, or without one
abbrev pub answer_for : Option ArrivalFault → Result (Unit {0}) ArrivalFault
answer_for None = Ok tt
answer_for (Some fault) = Err fault
