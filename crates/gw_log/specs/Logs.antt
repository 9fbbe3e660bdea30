-- What the log of a trunk keeps (module `trunk_log`).
use Rattle.std.specs.Prelude.{◌≡◌, ◌⊎◌, ◌+◌, ◌<◌, ◌≤◌, ◌^◌, ℕ, Bool, true, false, List, [], ◌++◌, length}
use Rattle.std.specs.Prelude.{Option, Some, None, IfSome}
use Rattle.gw_records.specs.Streams.{at_most}
use Rattle.gw_switch.specs.declared.GatewayConfig.{GatewayConfig}
use Rattle.gw_switch.specs.declared.gateway.Gateway.{Gateway}
use Rattle.gw_switch.specs.Saved.{GatewayFits}
use Rattle.gw_state.specs.Layout.{state_file}
use Rattle.gw_state.specs.Memory.{MemoryIsRefused}
use Rattle.gw_session.specs.Tape.{TapeState}
use Rattle.log_files.specs.Pairs.{CanTake, FitsBehind, IsBefore, Kept, LeavesKept, LogState, MayLeave}
use Rattle.log_files.specs.Pairs.{PairState, StandsFor}
use Rattle.log_files.specs.Adler.{sums_of}
use Rattle.log_files.specs.declared.loading.KeptContents.{KeptContents}
use Rattle.log_files.specs.declared.loading.Loaded.{Loaded}
use Rattle.log_files.specs.declared.loading.Loaded.TheVariants.{First, Second}
use Rattle.log_files.specs.Stores.{WhereKnown}
use Rattle.gw_log.specs.Checkpoints.{checkpoint, checkpoint_place}
use Rattle.gw_log.specs.declared.checkpointing.LogFault.{LogFault}
use Rattle.gw_log.specs.declared.checkpointing.LogFault.TheVariants as faults

-- the log of a trunk: its files, the configuration of its gateways, how many octets of records it took since
-- it was first begun, whether it ended, whether a write failed, how often it ended, and the octets that it
-- took since it was opened
pub record TrunkLogState : Type 0 where
  pub files : LogState
  pub config : GatewayConfig
  pub place : ℕ
  pub ended : Bool
  pub broken : Bool
  pub failures : ℕ
  pub taken : List ℕ

-- what the log tells as a tape
abbrev pub told_by : TrunkLogState → TapeState
told_by log = record { ended = log.ended; failures = log.failures; taken = Some log.taken; acts = None }

-- a gateway at this place, and octets of records behind it, as they are kept in a turn
abbrev pub kept_as : ℕ → GatewayConfig → ℕ → Gateway → List ℕ → Kept
kept_as turn config place gateway records =
    record { turn = turn; state = checkpoint place (state_file config gateway); records = records }

-- the files have this gateway at this place, and behind it these octets of records, which are the last that
-- the log took
pub record Keeps (log : TrunkLogState) (place : ℕ) (gateway : Gateway) (records : List ℕ) : Type 0 where
  pub stands : StandsFor log.files (kept_as log.files.turn log.config place gateway records)
  pub at : log.place ≡ place + length records
  pub before : List ℕ
  pub took : log.taken ≡ before ++ records
  pub whole : log.broken ≡ false

-- this is loaded of the files
pub record LeavesOf (log : TrunkLogState) (place : ℕ) (gateway : Gateway) (records : List ℕ) : Type 0 where
  pub turn : ℕ
  pub left : LeavesKept log.files (kept_as turn log.config place gateway records)

-- this many octets of records can be appended
pub record CanAppend (log : TrunkLogState) (len : ℕ) : Type 0 where
  pub whole : log.broken ≡ false
  pub room : FitsBehind log.files len
  pub counted : log.place + len < 2 ^ 64

-- octets of records were appended, and are kept behind the others
pub record Takes (log log' : TrunkLogState) (octets : List ℕ) : Type 0 where
  pub going : log.ended ≡ false
  pub can : CanAppend log (length octets)
  pub same : log' ≡ record log {
    files = log'.files;
    place = log.place + length octets;
    taken = log.taken ++ octets;
  }
  pub kept : (place : ℕ) (gateway : Gateway) (records : List ℕ) → Keeps log place gateway records
      → Keeps log' place gateway (records ++ octets)

-- the octet of a log behind what was kept: that of its checkpoint, and the octets of records behind it
abbrev pub place_after_kept : KeptContents → ℕ
place_after_kept kept = at_most (checkpoint_place kept.state.now + length kept.records.now)

-- the log behind what was loaded, if there was something
abbrev pub place_after_loaded : Option Loaded → ℕ
place_after_loaded None = 0
place_after_loaded (Some (First kept)) = place_after_kept kept
place_after_loaded (Some (Second kept)) = place_after_kept kept

-- the files of which one pair has what was kept
abbrev pub files_of : PairState → PairState → KeptContents → LogState
files_of newest other kept = record {
  newest = newest;
  other = other;
  turn = kept.turn;
  len = length kept.records.now;
  sums = sums_of kept.records.now;
}

-- the files of which this was loaded; if nothing was, the first checkpoint goes to the first pair
abbrev pub files_over : PairState → PairState → Option Loaded → LogState
files_over first second None =
    record { newest = second; other = first; turn = 0; len = 0; sums = sums_of [] }
files_over first second (Some (First kept)) = files_of first second kept
files_over first second (Some (Second kept)) = files_of second first kept

-- why the log ended: octets could not be appended, and nothing was written; or a write failed
abbrev pub EndsFor : TrunkLogState → TrunkLogState → List ℕ → Type 0
EndsFor log log' octets = ((¬ CanAppend log (length octets)) × (log' ≡ record log {
  ended = true;
  failures = log.failures + 1;
}))
    ⊎ (CanAppend log (length octets) × (log'.files.newest.failed ≡ true) × (log' ≡ record log {
      files = log'.files;
      ended = true;
      broken = true;
      failures = log.failures + 1;
    }))

-- octets of records were not appended, and the log ended: what it kept is left, or this with the octets
pub record EndsLog (log log' : TrunkLogState) (octets : List ℕ) : Type 0 where
  pub going : log.ended ≡ false
  pub cause : EndsFor log log' octets
  pub left : (place : ℕ) (gateway : Gateway) (records : List ℕ) → Keeps log place gateway records
      → LeavesOf log' place gateway records ⊎ LeavesOf log' place gateway (records ++ octets)

-- a log was given octets of records; one that had ended stays as it was
abbrev pub Appended : TrunkLogState → TrunkLogState → List ℕ → Type 0
Appended log log' octets =
    ((log.ended ≡ true) × (log' ≡ log)) ⊎ Takes log log' octets ⊎ EndsLog log log' octets

-- the files can have a checkpoint in the next turn: they have something, or nothing that is newer
abbrev pub CanFollow : LogState → Type 0
CanFollow files = ((kept : Kept) × StandsFor files kept)
    ⊎ IfSome files.newest.contents (IsBefore (files.turn + 1))

-- a checkpoint of a gateway was written: the files have this, and no record behind it
pub record Checkpointed (log log' : TrunkLogState) (gateway : Gateway) : Type 0 where
  pub fits : GatewayFits gateway
  pub kept : CanFollow log.files → Keeps log' log.place gateway []
  pub same : log' ≡ record log { files = log'.files }

-- .. or a write failed: what the files had is left, or this checkpoint; and only the other pair was written
pub record HalfCheckpointed (log log' : TrunkLogState) (gateway : Gateway) : Type 0 where
  pub fits : GatewayFits gateway
  pub left : (kept : Kept) → StandsFor log.files kept
      → LeavesKept log'.files kept ⊎ LeavesOf log' log.place gateway []
  pub written : WhereKnown log.files.other.contents log'.files.other.contents
      (MayLeave (kept_as (log.files.turn + 1) log.config log.place gateway []))
  pub same : log' ≡ record log { files = record log.files { other = log'.files.other }; broken = true }
  pub failed : log'.files.other.failed ≡ true

-- why no checkpoint was written: memory was refused, or there is no room for the state, and nothing was
-- written; or a write failed
abbrev pub Uncheckpointed : TrunkLogState → TrunkLogState → Gateway → LogFault → Type 0
Uncheckpointed log log' gateway faults.OutOfMemory = MemoryIsRefused × (log' ≡ log)
Uncheckpointed log log' gateway faults.NoRoom =
    (¬ CanTake log.files (length (checkpoint log.place (state_file log.config gateway)))) × (log' ≡ log)
Uncheckpointed log log' gateway faults.Write = HalfCheckpointed log log' gateway

-- A gateway was shown to the log. Behind less than 1 MiB of records, or if the log had ended, nothing
-- happens; otherwise a checkpoint of the gateway was written, or it was not.
pub record Shown (log log' : TrunkLogState) (gateway : Gateway) : Type 0 where
  pub early : (log.ended ≡ true) ⊎ (log.broken ≡ true) ⊎ (log.files.len < 2 ^ 20) → log' ≡ log
  pub late : log.ended ≡ false → log.broken ≡ false → 2 ^ 20 ≤ log.files.len
      → Checkpointed log log' gateway ⊎ ((fault : LogFault) × Uncheckpointed log log' gateway fault)

-- nothing was appended to a log yet, and no write failed
pub record IsUnused (config : GatewayConfig) (log : TrunkLogState) : Type 0 where
  pub config_is : log.config ≡ config
  pub whole : log.broken ≡ false
  pub new : told_by log ≡ record { ended = false; failures = 0; taken = Some []; acts = None }

-- A log that goes on: nothing was appended to it yet, and a checkpoint of this gateway was written.
pub record HasBegunLog (config : GatewayConfig) (gateway : Gateway) (log : TrunkLogState) : Type 0 where
  pub before : TrunkLogState
  pub unused : IsUnused config before
  pub checkpointed : Checkpointed before log gateway
