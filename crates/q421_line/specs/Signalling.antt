-- The signalling of one line (ITU-T Q.421): its state after a list of signals, commands and waits.
use Rattle.std.specs.Prelude.{ℕ, ◌+◌, Bool, true, false, ◌&&◌, nat_le, if◌then◌else◌}
use Rattle.std.specs.Prelude.{List, [], ◌∷◌, ◌++◌, fold, Option, Some, None, Result, Ok, Err}
use Rattle.q421_line.specs.declared.Role.{Role}
use Rattle.q421_line.specs.declared.State.{State}
use Rattle.q421_line.specs.declared.State.TheVariants.{Seized, Releasing, Fault}
use Rattle.q421_line.specs.declared.Cmd.{Cmd}
use Rattle.q421_line.specs.declared.LineFault.{LineFault}
use Rattle.q421_line.specs.Recognition.{pair_of, recognised}
use Rattle.q421_line.specs.Tables.{next_state}
use Rattle.q421_line.specs.Commands.{command_outcome}

-- an event of a line: a turn to signal, with the nibble received since the one before, if any; a command; or
-- a wait: from now on an unacknowledged seizure is released at this number of signals
pub data LineEvent : Type 0 where
  signal : Option ℕ → LineEvent
  command : Cmd → LineEvent
  wait : ℕ → LineEvent

-- the state of a line after events
pub record LineState : Type 0 where
  -- the known pairs, the latest last
  pub pairs : List ℕ
  pub state : State
  -- the signals that the present seizure has lasted; 0 in every state except Seized
  pub seized_for : ℕ
  -- the number of signals at which an unacknowledged seizure is released
  pub released_after : ℕ

-- a received nibble adds a known pair; none adds nothing
abbrev pub with_heard : List ℕ → Option ℕ → List ℕ
with_heard pairs None = pairs
with_heard pairs (Some nibble) = pairs ++ pair_of nibble ∷ []

-- the next state, if a pair is recognised
abbrev pub next_by : Role → State → Option ℕ → State
next_by role state None = state
next_by role state (Some pair) = next_state role state pair

-- the state is Seized
abbrev pub is_seized : State → Bool
is_seized Seized = true
is_seized state = false

-- the signalling with this wait, these known pairs, this state and this count of signals
abbrev pub with_count : ℕ → List ℕ → State → ℕ → LineState
with_count released_after pairs state seized_for = record {
  pairs = pairs;
  state = state;
  seized_for = seized_for;
  released_after = released_after;
}

-- If a line was and stays Seized, its seizure has lasted one signal more, and is released if these are at
-- least the wait.
abbrev pub after_count : ℕ → List ℕ → State → State → ℕ → LineState
after_count released_after pairs before after seized_for =
    if is_seized before && is_seized after
    then (if nat_le released_after (seized_for + 1)
    then with_count released_after pairs Releasing 0
    else with_count released_after pairs Seized (seized_for + 1))
    else with_count released_after pairs after 0

-- a signal: the nibble may complete the recognition of a pair; the recognised pair gives the next state with
-- every signal
abbrev pub after_signal : Role → LineState → Option ℕ → LineState
after_signal role line heard =
    let pairs = with_heard line.pairs heard in
    after_count line.released_after pairs line.state (next_by role line.state (recognised pairs))
    line.seized_for

-- an accepted command gives the next state; a refused one changes nothing
abbrev pub after_outcome : LineState → Result State LineFault → LineState
after_outcome line (Err fault) = line
after_outcome line (Ok state) = with_count line.released_after line.pairs state 0

-- after one more event
abbrev pub after_item : Role → LineState → LineEvent → LineState
after_item role line (signal heard) = after_signal role line heard
after_item role line (command asked) = after_outcome line (command_outcome role asked line.state)
after_item role line (wait signals) = record line { released_after = signals }

-- At first a line has received nothing and is in Fault (our choice: it accepts no call before it knows the
-- other end). It releases a seizure at its hundredth signal. (Our choice: at one every 2 ms this is 200 ms,
-- ten times the recognition.)
abbrev pub at_first : LineState
at_first = with_count 100 [] Fault 0

-- the signalling of a line in this role after a list of signals, commands and waits
unfoldable pub signalling : Role → List LineEvent → LineState
signalling role items = fold (after_item role) at_first items
