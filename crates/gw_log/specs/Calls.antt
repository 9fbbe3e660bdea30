-- What the files of a log leave behind any calls on it, and so what a program leaves that is killed: inside a
-- call that is one whose write fails behind any of its octets, and no call follows.
use Rattle.std.specs.Prelude.{◌≡◌, ◌⊎◌, ⊤, true, false, List, [], ◌∷◌, ◌++◌, flat_map, ℕ}
use Rattle.std.specs.List.{AllByRecursion}
use Rattle.gw_records.specs.Records.{IsGood, Record, spelled}
use Rattle.gw_switch.specs.Reconfigured.{HasTaken}
use Rattle.gw_switch.specs.Saved.{GatewayFits}
use Rattle.gw_switch.specs.declared.GatewayConfig.{GatewayConfig}
use Rattle.gw_switch.specs.declared.gateway.Gateway.{Gateway}
use Rattle.gw_session.specs.Answers.{events}
use Rattle.gw_session.specs.Running.{all_kinds}
use Rattle.gw_log.specs.Logs.{Appended, CanFollow, Checkpointed, IsUnused, LeavesOf, Shown, TrunkLogState}

-- a call on a log in service: records are appended together, a gateway is shown, or the log is ended
pub data Call : Type 0 where
  Append : (records : List Record) → Call
  Show : (gateway : Gateway) → Call
  End : Call

-- it was called so
abbrev pub WasCalled : TrunkLogState → TrunkLogState → Call → Type 0
WasCalled log log' (Call.Append records) =
    AllByRecursion (IsGood all_kinds) records × Appended log log' (flat_map spelled records)
WasCalled log log' (Call.Show gateway) = Shown log log' gateway
WasCalled log log' Call.End = log' ≡ record log { ended = true }

-- .. and then so, one call behind the other
abbrev pub WereCalled : TrunkLogState → TrunkLogState → List Call → Type 0
WereCalled log log' [] = log' ≡ log
WereCalled log log' (call ∷ calls) =
    (next : TrunkLogState) × WasCalled log next call × WereCalled next log' calls

-- the records of calls
abbrev pub records_of : Call → List Record
records_of (Call.Append records) = records
records_of call = []

abbrev pub records_in : List Call → List Record
records_in calls = flat_map records_of calls

-- a gateway that is shown is this one behind these records
abbrev pub IsBehind : Gateway → List Record → Call → Type 0
IsBehind gateway records (Call.Show shown) = HasTaken gateway shown (events records)
IsBehind gateway records call = ⊤

-- each one is this gateway behind these records and those of the calls before
abbrev pub AreBehind : Gateway → List Record → List Call → Type 0
AreBehind gateway records [] = ⊤
AreBehind gateway records (call ∷ calls) =
    IsBehind gateway records call × AreBehind gateway (records ++ records_of call) calls

-- the log took the records of the calls before an append, and then there are those of this one, too
pub record HasCutIn (calls : List Call) (took records : List Record) : Type 0 where
  pub before : List Call
  pub last : List Record
  pub after : List Call
  pub calls_are : calls ≡ before ++ Call.Append last ∷ after
  pub took_are : took ≡ records_in before
  pub records_are : records ≡ took ++ last

-- The records of calls that are in a log: those that it took, the first of all; or these and those of the
-- append at which it ended. If it has not ended and no write failed, they are all.
pub record AreLogged (log : TrunkLogState) (calls : List Call) (records : List Record) : Type 0 where
  pub took : List Record
  pub took_are : log.taken ≡ flat_map spelled took
  pub rest : List Record
  pub all : records_in calls ≡ took ++ rest
  pub whole : log.ended ≡ false → log.broken ≡ false → (records ≡ took) × (rest ≡ [])
  pub cut : (records ≡ took) ⊎ HasCutIn calls took records

-- The files of a log leave a gateway behind these records: a state of it behind the first ones, and the
-- others.
pub record LeavesBehind (gateway : Gateway) (log : TrunkLogState) (records : List Record) : Type 0 where
  pub first : List Record
  pub others : List Record
  pub records_are : records ≡ first ++ others
  pub good : AllByRecursion (IsGood all_kinds) others
  pub place : ℕ
  pub saved : Gateway
  pub fits : GatewayFits saved
  pub stands : HasTaken gateway saved (events first)
  pub left : LeavesOf log place saved (flat_map spelled others)

-- a checkpoint of a gateway was written to a log that was opened, and then it was called so
pub record WasServed (gateway : Gateway) (opened log : TrunkLogState) (calls : List Call) : Type 0 where
  pub begun : TrunkLogState
  pub checkpointed : Checkpointed opened begun gateway
  pub called : WereCalled begun log calls
  pub behind : AreBehind gateway [] calls

-- whatever a log was called, its files leave the gateway that it was begun with, behind the records that are
-- in it
abbrev pub LogsAreLeft : Type 0
LogsAreLeft = (config : GatewayConfig) (gateway : Gateway) (opened log : TrunkLogState) (calls : List Call)
    → IsUnused config opened → CanFollow opened.files → WasServed gateway opened log calls
    → (log.config ≡ config)
    × ((records : List Record) × AreLogged log calls records × LeavesBehind gateway log records)
