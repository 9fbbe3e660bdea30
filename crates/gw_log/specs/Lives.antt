-- What starts of the program did until each was killed, by what they have logged.
use Rattle.std.specs.Prelude.{◌≡◌, ◌⊎◌, List, [], ◌∷◌, ◌++◌, flat_map, map}
use Rattle.std.specs.List.{AllByRecursion}
use Rattle.gw_switch.specs.Events.{Event}
use Rattle.gw_switch.specs.Standing.{HasHistory}
use Rattle.gw_switch.specs.declared.GatewayConfig.{GatewayConfig}
use Rattle.gw_switch.specs.declared.gateway.Gateway.{Gateway}
use Rattle.gw_state.specs.Layout.{ConfigFits}
use Rattle.gw_records.specs.Records.{Record, spelled}
use Rattle.gw_session.specs.Answers.{events}
use Rattle.gw_session.specs.Killed.{AnswersFirst, GivenOut, WasCutOff}
use Rattle.log_files.specs.Pairs.{HasNothingWhole}
use Rattle.gw_log.specs.Calls.{AreLogged, WasServed}
use Rattle.gw_log.specs.Logs.{HalfCheckpointed}
use Rattle.log_files.specs.Pairs.{Contents}
use Rattle.gw_log.specs.Resuming.{BeginsFrom}
use Rattle.gw_log.specs.Starts.{AreStarts, Disk, HasLogged, ReadsWhatWasWritten, Start, given_wait}

-- a start, and what its session gave out until it was killed
pub record Life : Type 0 where
  pub start : Start
  pub gave : GivenOut

abbrev pub start_of : Life → Start
start_of life = life.start

-- Assumed: what a start gave out, and the calls on its log, were those of one session, whose tape, ports and
-- sink know what they took. It was cut off when it had given this out, and these records were in the log.
abbrev pub WasCut : Life → List Record → Type 0
WasCut life records = WasCutOff life.start.gateway (flat_map spelled records) life.gave

abbrev pub GaveNothing : Life → Type 0
GaveNothing life = (life.gave.sent ≡ []) × (life.gave.out ≡ [])

-- it was killed in its first checkpoint, and gave out nothing; or later, whichever records are in its log
abbrev pub WasKilledSo : Life → Type 0
WasKilledSo life =
    (HalfCheckpointed life.start.opened life.start.log life.start.gateway × (life.start.calls ≡ [])
    × GaveNothing life)
    ⊎ (WasServed life.start.gateway life.start.opened life.start.log life.start.calls
    × ((records : List Record) → AreLogged life.start.log life.start.calls records → WasCut life records))

-- What a start gave out that has logged this. It gave nothing if it was killed in its first checkpoint. Else it gave
-- the first of the answers to the inputs of its session, which follow all that earlier starts have logged.
abbrev pub HasDone : GatewayConfig → List Event → Life → List Event → Type 0
HasDone config before life logged =
    (HasLogged life.start logged × HalfCheckpointed life.start.opened life.start.log life.start.gateway
    × GaveNothing life)
    ⊎ ((records : List Record) × (cut : WasCut life records)
    × AreLogged life.start.log life.start.calls records
    × (logged ≡ given_wait life.start.wait ++ events records)
    × AnswersFirst config (before ++ given_wait life.start.wait) cut.inputs (events records) life.gave)

-- what starts gave out, one behind the other
abbrev pub HaveDone : GatewayConfig → List Event → List Life → List Event → Type 0
HaveDone config before [] logged = logged ≡ []
HaveDone config before (life ∷ lives) logged = (first : List Event) × (rest : List Event)
    × HasDone config before life first × HaveDone config (before ++ first) lives rest
    × (logged ≡ first ++ rest)

-- However often the program was killed since its log was begun in an empty folder: the packets and the octets
-- that each start gave out are the first of what answers what it has logged, and all of that but for a part of
-- the last record's, and for as many packets as its ports counted failed sends; and the next start begins with
-- a new gateway behind all that they have logged.
abbrev pub StartsAnswerTheirLogs : Type 0
StartsAnswerTheirLogs = (config : GatewayConfig) (disk disk' : Disk) (lives : List Life) (next : Gateway)
    → ConfigFits config → HasNothingWhole disk.first → HasNothingWhole disk.second
    → AreStarts config disk (map start_of lives) disk' → AllByRecursion WasKilledSo lives
    → (first second : Contents) → ReadsWhatWasWritten disk' first second
    → BeginsFrom first second config next
    → (logged : List Event) × HaveDone config [] lives logged × HasHistory config next logged
