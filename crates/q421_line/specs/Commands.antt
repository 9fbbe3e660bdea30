-- The commands of an operator, which are the signals of one end of a circuit by ITU-T Q.421, and their
-- refusals.
use Rattle.std.specs.Prelude.{ℕ, Bool, true, false, if◌then◌else◌, Result, Ok, Err}
use Rattle.q421_line.specs.declared.Role.{Role}
use Rattle.q421_line.specs.declared.Role.TheVariants.{Outgoing, Incoming}
use Rattle.q421_line.specs.declared.State.{State}
use Rattle.q421_line.specs.declared.State.TheVariants.{Idle, Seized, Acked, Answered}
use Rattle.q421_line.specs.declared.State.TheVariants.{ClearedBack, Releasing, Blocked}
use Rattle.q421_line.specs.declared.Cmd.{Cmd}
use Rattle.q421_line.specs.declared.Cmd.TheVariants.{Seize, Clear, Answer, ClearBack, Block, Unblock}
use Rattle.q421_line.specs.declared.LineFault.{LineFault}
use Rattle.q421_line.specs.declared.LineFault.TheVariants.{WrongRole, NotIdle, NotSeized}
use Rattle.q421_line.specs.declared.LineFault.TheVariants.{NotInCall, NotBlocked}

-- the number of a fault
unfoldable pub fault_number : LineFault → ℕ
fault_number WrongRole = 1
fault_number NotIdle = 2
fault_number NotSeized = 3
fault_number NotInCall = 4
fault_number NotBlocked = 5

-- the command is for this role (ITU-T Q.421): seizing and clear-forward are forward signals, answer,
-- clear-back and blocking are backward ones
abbrev pub is_for : Role → Cmd → Bool
is_for Outgoing Seize = true
is_for Outgoing Clear = true
is_for Outgoing asked = false
is_for Incoming Answer = true
is_for Incoming ClearBack = true
is_for Incoming Block = true
is_for Incoming Unblock = true
is_for Incoming asked = false

-- the state after a command for the line's role, or why it is refused (ITU-T Q.421 for the states in which
-- each signal is sent; the faults are ours)
abbrev pub own_command_outcome : Cmd → State → Result State LineFault
own_command_outcome Seize Idle = Ok Seized
own_command_outcome Seize state = Err NotIdle
own_command_outcome Clear Seized = Ok Releasing
own_command_outcome Clear Acked = Ok Releasing
own_command_outcome Clear Answered = Ok Releasing
own_command_outcome Clear ClearedBack = Ok Releasing
own_command_outcome Clear state = Err NotInCall
own_command_outcome Answer Acked = Ok Answered
own_command_outcome Answer ClearedBack = Ok Answered
own_command_outcome Answer state = Err NotSeized
own_command_outcome ClearBack Answered = Ok ClearedBack
own_command_outcome ClearBack state = Err NotInCall
own_command_outcome Block Idle = Ok Blocked
own_command_outcome Block state = Err NotIdle
own_command_outcome Unblock Blocked = Ok Idle
own_command_outcome Unblock state = Err NotBlocked

-- the state after a command, or why it is refused; one for the other role is refused in every state
unfoldable pub command_outcome : Role → Cmd → State → Result State LineFault
command_outcome role asked state =
    if is_for role asked then own_command_outcome asked state else Err WrongRole

-- the answer to a command: whether it is refused, and why
abbrev pub told_of : Result State LineFault → Result (Unit {0}) LineFault
told_of (Ok state) = Ok tt
told_of (Err fault) = Err fault
