-- What is reported, and when (modules `gateway_status` and `report`).
use Rattle.std.specs.Prelude.{◌≡◌, ◌≢◌, ◌⊎◌, ◌++◌, ◌≤◌, ◌/◌, ◌+◌, ◌-◌, ℕ, zero, suc, List, [], ◌∷◌, length}
use Rattle.std.specs.Prelude.{Bool, true, false, if◌then◌else◌, ◌||◌, ◌==◌, nat_lt, None, slice_index_or}
use Rattle.e1_g711.specs.declared.Law.{Law}
use Rattle.e1_g711.specs.declared.Law.TheVariants as laws
use Rattle.g726_codec.specs.declared.CodecKind.TheVariants as codecs
use Rattle.q421_line.specs.declared.Role.TheVariants as roles
use Rattle.q421_line.specs.declared.State.TheVariants as states
use Rattle.gw_circuit.specs.declared.Status.{Status}
use Rattle.gw_switch.specs.declared.Alarms.{Alarms}
use Rattle.gw_switch.specs.declared.gateway.Gateway.{Gateway}
use Rattle.gw_switch.specs.declared.GatewayConfig.{GatewayConfig}
use Rattle.gw_switch.specs.Events.{Event}
use Rattle.gw_switch.specs.Whole.{status_after, alarms_after}
use Rattle.gw_switch.specs.Standing.{HasHistory}
use Rattle.gw_records.specs.Records.{Record}
use Rattle.gw_records.specs.Streams.{at_most}
use Rattle.gw_tell.specs.declared.gateway_status.GatewayStatus.{GatewayStatus}
use Rattle.gw_tell.specs.declared.counts.DatagramCounts.{DatagramCounts}
use Rattle.gw_tell.specs.Counts.{counts_at, told_at}
use Rattle.gw_tell.specs.Lines.{at_line, alarms_line, counts_line, row_line, seizures_line, hello_line}
use Rattle.gw_tell.specs.Lines.{now_line}

-- the status of no circuit
abbrev pub no_status : Status
no_status = record {
  role = roles.Outgoing;
  law = laws.A;
  codec = codecs.G711;
  payload_type = 0;
  state = states.Idle;
  sent = 0;
  recognised = None;
  sent_count = 0;
  received = 0;
  dropped = 0;
}

-- the status of a circuit, of those of circuits 1 to 30
abbrev pub of_circuit : List Status → ℕ → Status
of_circuit rows circuit = slice_index_or rows (circuit - 1) no_status

-- these are the statuses of the gateway's circuits
abbrev pub AreOf : List Status → Gateway → Type 0
AreOf rows gateway = (config : GatewayConfig) (events : List Event) → HasHistory config gateway events
    → (c : ℕ) → 1 ≤ c → c ≤ 30 → of_circuit rows c ≡ status_after config events c

-- this is the gateway's status
pub record Shows (gateway_status : GatewayStatus) (gateway : Gateway) : Type 0 where
  pub alarms_are : (config : GatewayConfig) (events : List Event) → HasHistory config gateway events
      → gateway_status.alarms ≡ alarms_after events
  pub rows_are : AreOf gateway_status.rows gateway

-- a status with the counts of another
abbrev pub counted_as : Status → Status → Status
counted_as is was = record is { sent_count = was.sent_count; received = was.received; dropped = was.dropped }

-- what a circuit has to have been for nothing to be reported of it: what it is, but for its counts unless
-- these are due
abbrev pub quiet_at : Bool → Status → Status → Status
quiet_at true was is = is
quiet_at false was is = counted_as is was

-- a circuit is reported, and this is now what was reported last of it; or there is nothing to report
abbrev pub RowStep : Bool → ℕ → Status → Status → Status → List ℕ → List ℕ → Type 0
RowStep due c was is told text text' =
    ((was ≢ quiet_at due was is) × (told ≡ is) × (text' ≡ text ++ row_line c is))
    ⊎ ((was ≡ quiet_at due was is) × (told ≡ was) × (text' ≡ text))

-- this many circuits from the first are reported one after another
unfoldable pub RowSteps : Bool → List Status → List Status → List Status → List ℕ → List ℕ → ℕ → Type 0
RowSteps due was is told text text' zero = text' ≡ text
RowSteps due was is told text text' (suc n) = (between : List ℕ) × RowSteps due was is told text between n
    × RowStep due (suc n) (of_circuit was (suc n)) (of_circuit is (suc n)) (of_circuit told (suc n))
    between text'

-- the alarms are reported if they changed
abbrev pub AlarmsStep : Alarms → Alarms → List ℕ → List ℕ → Type 0
AlarmsStep was is text text' =
    ((was ≢ is) × (text' ≡ text ++ alarms_line is)) ⊎ ((was ≡ is) × (text' ≡ text))

-- how many octets of the trunk a record has
abbrev pub trunk_len : Record → ℕ
trunk_len (Record.Trunk octets) = length octets
trunk_len _ = 0

-- the place behind a record
abbrev pub place_after : ℕ → Record → ℕ
place_after place r = at_most (place + trunk_len r)

-- the counts are due once in 65,536 octets of the trunk
abbrev pub are_due : ℕ → ℕ → Bool
are_due place place' = nat_lt (place / 65536) (place' / 65536)

-- the line of a circuit's counts, if all are told or these are new
abbrev pub told_line : Bool → ℕ → DatagramCounts → List ℕ
told_line all circuit c = if all || c.is_new then counts_line circuit c else []

-- .. of this many circuits from the first
unfoldable pub counts_lines : Bool → List DatagramCounts → ℕ → List ℕ
counts_lines all counts zero = []
counts_lines all counts (suc n) = counts_lines all counts n ++ told_line all (suc n)
    (counts_at counts (suc n))

-- .. that are told if they are due
abbrev pub due_lines : Bool → List DatagramCounts → List ℕ
due_lines true counts = counts_lines false counts 30
due_lines false counts = []

-- The lines of what has changed go behind a text: the alarms, the circuits, and the counts that are new, if
-- they are due. What was reported last was `was`, and is then `told`.
pub record Changes (due : Bool) (was is told : GatewayStatus) (counts counts' : List DatagramCounts)
    (text text' : List ℕ) : Type 0 where
  pub between : List ℕ
  pub behind : List ℕ
  pub alarms : AlarmsStep was.alarms is.alarms text between
  pub alarms_are : told.alarms ≡ is.alarms
  pub rows : RowSteps due was.rows is.rows told.rows between behind 30
  pub counts_are : text' ≡ behind ++ due_lines due counts
  pub counts_told : (c : ℕ) → 1 ≤ c → c ≤ 30 → counts_at counts' c ≡ told_at due (counts_at counts c)

-- what was reported last is the state of the trunk, but for the counts
pub record IsStatusOf (is told : GatewayStatus) : Type 0 where
  pub alarms_are : told.alarms ≡ is.alarms
  pub rows_are : (c : ℕ) → 1 ≤ c → c ≤ 30
      → of_circuit told.rows c ≡ counted_as (of_circuit is.rows c) (of_circuit told.rows c)

-- the lines of this many circuits from the first
unfoldable pub row_lines : List Status → ℕ → List ℕ
row_lines rows zero = []
row_lines rows (suc n) = row_lines rows n ++ row_line (suc n) (of_circuit rows (suc n))

-- the whole state, which a new client gets
abbrev pub whole_state : Law → ℕ → GatewayStatus → List DatagramCounts → List ℕ → List ℕ
whole_state law place gateway_status counts seized = hello_line law ++ at_line place
    ++ alarms_line gateway_status.alarms ++ row_lines gateway_status.rows 30 ++ counts_lines true counts 30
    ++ seizures_line seized ++ now_line

-- what a client is sent whose last `at` was this place: nothing, or the lines with the place before them if
-- it has changed
abbrev pub sent_to : ℕ → ℕ → List ℕ → List ℕ
sent_to last place [] = []
sent_to last place (x ∷ lines) = (if last == place then [] else at_line place) ++ x ∷ lines

-- the place of its last `at` then
abbrev pub last_after : ℕ → ℕ → List ℕ → ℕ
last_after last place [] = last
last_after last place (x ∷ lines) = place
