-- What a session changes.
use Rattle.std.specs.Prelude.{◌≡◌, ◌^◌, List, [], ℕ, Bool, false}
use Rattle.gw_records.specs.Line.{Input, Output, Terms}
use Rattle.gw_session.specs.Prelude.{Gateway, Totals, SinkState, PortsState}
use Rattle.gw_session.specs.Tape.{TapeState}

-- Where a session stands: what its ports tell, its gateway, what is counted, whether it holds packets until
-- their record is on the tape, and those that it holds, with their circuits.
pub record SessionState : Type 0 where
  pub ports : PortsState
  pub gateway : Gateway
  pub totals : Totals
  pub holds : Bool
  pub held : List (ℕ × List ℕ)

-- All that a session changes, with the state of its tape.
pub record World : Type 0 where
  pub state : SessionState
  pub tape : TapeState
  pub output : Output

abbrev pub state_with : Bool → List (ℕ × List ℕ) → PortsState → Gateway → Totals → SessionState
state_with holds held ports gateway totals =
    record { ports = ports; gateway = gateway; totals = totals; holds = holds; held = held }

-- .. between two records
abbrev pub state_in : Bool → PortsState → Gateway → Totals → SessionState
state_in holds = state_with holds []

-- .. where packets are sent at once
abbrev pub state_of : PortsState → Gateway → Totals → SessionState
state_of = state_in false

abbrev pub output_of : SinkState → List ℕ → Output
output_of sink waiting = record { sink = sink; waiting = waiting }

abbrev pub world_with : Bool → List (ℕ × List ℕ) → PortsState → Gateway → Totals → TapeState → Output → World
world_with holds held ports gateway totals tape output = record {
  state = state_with holds held ports gateway totals;
  tape = tape;
  output = output;
}

abbrev pub world_in : Bool → PortsState → Gateway → Totals → TapeState → Output → World
world_in holds = world_with holds []

-- a line of which nothing is held and to which nothing waits to be written, where each answer is written at once
pub record IsNew (input : Input) (output : Output) (terms : Terms) : Type 0 where
  pub none_held : input.held.octets ≡ []
  pub turns : input.held.reads_left ≡ 2 ^ 62
  pub none_waits : output.waiting ≡ []
  pub at_once : terms.late ≡ 0
