-- The tables of ITU-T Q.421: what a line sends in each state, and its next state by the recognised pair.
-- Pairs are written as bits a and b.
use Rattle.std.specs.Prelude.{ℕ, ◌+◌, ◌*◌, Bool, true, false, ◌==◌, if◌then◌else◌}
use Rattle.q421_line.specs.declared.Role.{Role}
use Rattle.q421_line.specs.declared.Role.TheVariants.{Outgoing, Incoming}
use Rattle.q421_line.specs.declared.State.{State}
use Rattle.q421_line.specs.declared.State.TheVariants.{Idle, Seized, Acked, Answered}
use Rattle.q421_line.specs.declared.State.TheVariants.{ClearedBack, Releasing, Blocked, Fault}

-- The pair that a line sends in a state (ITU-T Q.421): an outgoing line idle or clear-forward 10, seizing 00;
-- an incoming one idle 10, seizing acknowledged, clear-back and blocking 11, answer 01. (Our choice: an
-- incoming line in fault sends blocking, so that it is not seized.)
unfoldable pub sent_pair : Role → State → ℕ
sent_pair Outgoing Idle = 0b10
sent_pair Outgoing Seized = 0b00
sent_pair Outgoing Acked = 0b00
sent_pair Outgoing Answered = 0b00
sent_pair Outgoing ClearedBack = 0b00
sent_pair Outgoing Releasing = 0b10
sent_pair Outgoing Blocked = 0b10
sent_pair Outgoing Fault = 0b10
sent_pair Incoming Idle = 0b10
sent_pair Incoming Acked = 0b11
sent_pair Incoming Answered = 0b01
sent_pair Incoming ClearedBack = 0b11
sent_pair Incoming Blocked = 0b11
sent_pair Incoming Fault = 0b11
-- (no incoming line is ever in these two; they have the row of a fault)
sent_pair Incoming Seized = 0b11
sent_pair Incoming Releasing = 0b11

-- the nibble of a pair: bits c and d are 0 and 1 (ITU-T Q.421)
abbrev pub sent_nibble : ℕ → ℕ
sent_nibble pair = 4 * pair + 1

-- a row of a table: the next state by the recognised pair, for 10, 11, 01 and 00
abbrev pub by_pair : State → State → State → State → ℕ → State
by_pair at_10 at_11 at_01 at_00 pair =
    if pair == 0b10 then at_10 else (if pair == 0b11 then at_11 else (if pair == 0b01 then at_01 else at_00))

-- The next state of an outgoing line by the backward pair (ITU-T Q.421): 10 is idle; 11 blocking, seizing
-- acknowledged or clear-back; 01 answer; 00 nothing. (Our choices: a meaningless pair is a fault, which the
-- next idle or blocking ends; a release waits for idle alone, because anything else belongs to the call being
-- cleared.)
abbrev pub next_outgoing : State → ℕ → State
next_outgoing Idle = by_pair Idle Blocked Fault Fault
next_outgoing Blocked = by_pair Idle Blocked Fault Fault
next_outgoing Fault = by_pair Idle Blocked Fault Fault
next_outgoing Seized = by_pair Seized Acked Fault Fault
next_outgoing Acked = by_pair Fault Acked Answered Fault
next_outgoing Answered = by_pair Fault ClearedBack Answered Fault
next_outgoing ClearedBack = by_pair Fault ClearedBack Answered Fault
next_outgoing Releasing = by_pair Idle Releasing Releasing Releasing

-- The next state of an incoming line by the forward pair (ITU-T Q.421): 10 is idle or clear-forward; 00
-- seizing; 11 and 01, with bit b set, are unexpected. (Our choices: clear-forward is answered by idle at
-- once, because nothing else has to be released; a failure is a fault, which idle ends; only the operator
-- lifts a block, so a blocked line ignores what it receives.)
abbrev pub next_incoming : State → ℕ → State
next_incoming Idle = by_pair Idle Fault Fault Acked
next_incoming Acked = by_pair Idle Fault Fault Acked
next_incoming Answered = by_pair Idle Fault Fault Answered
next_incoming ClearedBack = by_pair Idle Fault Fault ClearedBack
next_incoming Blocked = by_pair Blocked Blocked Blocked Blocked
next_incoming Fault = by_pair Idle Fault Fault Fault
-- (no incoming line is ever in these two; they have the row of a fault)
next_incoming Seized = by_pair Idle Fault Fault Fault
next_incoming Releasing = by_pair Idle Fault Fault Fault

-- the next state of a line in this role
unfoldable pub next_state : Role → State → ℕ → State
next_state Outgoing = next_outgoing
next_state Incoming = next_incoming

-- the speech path is open: in a call, from the acknowledgement of its seizure (ITU-T Q.421)
unfoldable pub is_open : State → Bool
is_open Acked = true
is_open Answered = true
is_open ClearedBack = true
is_open Idle = false
is_open Seized = false
is_open Releasing = false
is_open Blocked = false
is_open Fault = false
