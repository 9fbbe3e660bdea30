-- Starts of the program on the log in a folder, each of which was killed at some time, and the gateway with
-- which the next one begins.
use Rattle.std.specs.Prelude.{◌≡◌, ◌⊎◌, ℕ, List, [], ◌∷◌, ◌++◌, Option, Some, None}
use Rattle.gw_switch.specs.Events.{CircuitEvent, Event}
use Rattle.gw_switch.specs.Standing.{HasHistory}
use Rattle.gw_switch.specs.declared.GatewayConfig.{GatewayConfig}
use Rattle.gw_switch.specs.declared.gateway.Gateway.{Gateway}
use Rattle.gw_state.specs.Layout.{ConfigFits}
use Rattle.gw_records.specs.Records.{Record}
use Rattle.gw_session.specs.Answers.{events}
use Rattle.log_files.specs.Area.{HasAreaOf}
use Rattle.log_files.specs.Pairs.{Contents, HasNothingWhole, LogState}
use Rattle.gw_log.specs.Calls.{AreLogged, Call, WasServed}
use Rattle.gw_log.specs.Logs.{HalfCheckpointed, IsUnused, TrunkLogState}
use Rattle.gw_log.specs.LogTape.{IsOpenedOver}
use Rattle.gw_log.specs.Resuming.{BeginsFrom}

-- what the four files of a log hold
pub record Disk : Type 0 where
  pub first : Contents
  pub second : Contents

-- octets are the front of what the files of a pair hold, with the areas that they have
pub record IsFrontOf (pair octets : Contents) : Type 0 where
  pub state : HasAreaOf pair.state octets.state
  pub records : HasAreaOf pair.records octets.records

-- Assumed of the system, of which proofs know nothing: a start is given what the files hold.
pub record ReadsWhatWasWritten (disk : Disk) (first second : Contents) : Type 0 where
  pub first_is : IsFrontOf disk.first first
  pub second_is : IsFrontOf disk.second second

-- a start: the gateway that it served with, and the wait that this was given; its log as it was opened, the
-- calls on it, and as it was left; and what its files hold then
pub record Start : Type 0 where
  pub gateway : Gateway
  pub wait : Option ℕ
  pub opened : TrunkLogState
  pub calls : List Call
  pub log : TrunkLogState
  pub left : Disk

-- a start was killed in its first checkpoint, which so failed; or behind or in one of the calls on its log
abbrev pub WasKilled : Start → Type 0
WasKilled start = (HalfCheckpointed start.opened start.log start.gateway × (start.calls ≡ []))
    ⊎ WasServed start.gateway start.opened start.log start.calls

-- Assumed of the system, too: files hold what was written to them. So the pairs of a log that was opened over
-- files hold what these hold..
pub record HoldsDisk (disk : Disk) (first second : Contents) (log : TrunkLogState)
    (over : IsOpenedOver first second log) : Type 0 where
  pub reads : ReadsWhatWasWritten disk first second
  pub first_is : over.pair.contents ≡ Some disk.first
  pub second_is : over.other.contents ≡ Some disk.second

-- .. and they hold what its pairs do, one of which is the first
abbrev pub AreHeld : LogState → Disk → Type 0
AreHeld files disk = ((files.newest.contents ≡ Some disk.first) × (files.other.contents ≡ Some disk.second))
    ⊎ ((files.newest.contents ≡ Some disk.second) × (files.other.contents ≡ Some disk.first))

-- a gateway is given this wait, if one is asked for: one event more, however it was configured at first
abbrev pub Waits : Option ℕ → Gateway → Gateway → Type 0
Waits None begun gateway = gateway ≡ begun
Waits (Some signals) begun gateway = (config : GatewayConfig) (events : List Event)
    → HasHistory config begun events
    → HasHistory config gateway (events ++ Event.GivenAll (CircuitEvent.Wait signals) ∷ [])

-- A start over files that held this: it was given these octets of them, began with the gateway that they have
-- (`resumed_of`), and opened its log over them (`log_behind`). One that was killed before it opened them wrote
-- nothing but zeros behind what they held.
pub record IsStart (config : GatewayConfig) (disk : Disk) (start : Start) : Type 0 where
  pub first : Contents
  pub second : Contents
  pub given : ReadsWhatWasWritten disk first second
  pub begun : Gateway
  pub begins : BeginsFrom first second config begun
  pub waits : Waits start.wait begun start.gateway
  pub unused : IsUnused config start.opened
  pub first_again : Contents
  pub second_again : Contents
  pub over : IsOpenedOver first_again second_again start.opened
  pub held : HoldsDisk disk first_again second_again start.opened over
  pub killed : WasKilled start
  pub left : AreHeld start.log.files start.left

-- starts of one configuration, each over what the one before left
abbrev pub AreStarts : GatewayConfig → Disk → List Start → Disk → Type 0
AreStarts config disk [] disk' = disk' ≡ disk
AreStarts config disk (start ∷ starts) disk' = IsStart config disk start × AreStarts config start.left starts disk'

-- a gateway is given a wait, if one is asked for
abbrev pub given_wait : Option ℕ → List Event
given_wait None = []
given_wait (Some signals) = Event.GivenAll (CircuitEvent.Wait signals) ∷ []

-- What a start has logged: the wait that its gateway was given, and the events of the records that are in its
-- log; or nothing, if it was killed in its first checkpoint.
abbrev pub HasLogged : Start → List Event → Type 0
HasLogged start logged = (HalfCheckpointed start.opened start.log start.gateway × (logged ≡ []))
    ⊎ ((records : List Record) × AreLogged start.log start.calls records
    × (logged ≡ given_wait start.wait ++ events records))

-- what starts have logged, one behind the other
abbrev pub HaveLogged : List Start → List Event → Type 0
HaveLogged [] logged = logged ≡ []
HaveLogged (start ∷ starts) logged = (first : List Event) × (rest : List Event) × HasLogged start first
    × HaveLogged starts rest × (logged ≡ first ++ rest)

-- However often the program was killed since its log was begun in an empty folder, the gateway with which the
-- next start begins is a new one behind all that these starts have logged.
abbrev pub StartsGoOn : Type 0
StartsGoOn = (config : GatewayConfig) (disk disk' : Disk) (starts : List Start) (next : Gateway)
    → ConfigFits config → HasNothingWhole disk.first → HasNothingWhole disk.second
    → AreStarts config disk starts disk' → (first second : Contents) → ReadsWhatWasWritten disk' first second
    → BeginsFrom first second config next
    → (logged : List Event) × HaveLogged starts logged × HasHistory config next logged
