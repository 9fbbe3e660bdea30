-- The end of a session, and its totals (module `outcome`).
use Rattle.std.specs.Prelude.{◌≡◌, ◌<◌, ℕ, true, List, Result, Ok, Err}
use Rattle.std.specs.Io.KnownBytes.{IsAtEnd}
use Rattle.gw_records.specs.declared.outcome.Totals.{Totals}
use Rattle.gw_records.specs.declared.outcome.RunFault.{RunFault}
use Rattle.gw_records.specs.declared.outcome.RunFault.TheVariants as faults
use Rattle.gw_records.specs.declared.records.AcceptedKinds.{AcceptedKinds}
use Rattle.gw_records.specs.declared.records.RecordsEnd.{RecordsEnd}
use Rattle.gw_records.specs.declared.records.RecordsEnd.TheVariants as endings
use Rattle.gw_records.specs.Records.{Record, BeginsWith, Reads, is_open}
use Rattle.gw_records.specs.Streams.{SourceState, SinkState, GivesOctets, GivesUp}

-- the number of a fault
unfoldable pub fault_number : RunFault → ℕ
fault_number faults.BadKind = 1
fault_number faults.BadCircuit = 2
fault_number faults.BadCommand = 3
fault_number faults.Truncated = 4
fault_number faults.Read = 5
fault_number faults.Write = 6
fault_number faults.OutOfMemory = 7

-- the result if the records end so
abbrev pub answer_of : RecordsEnd → Totals → Result Totals RunFault
answer_of endings.End totals = Ok totals
answer_of endings.BadKind totals = Err faults.BadKind
answer_of endings.BadCircuit totals = Err faults.BadCircuit
answer_of endings.BadCommand totals = Err faults.BadCommand
answer_of endings.Truncated totals = Err faults.Truncated

abbrev pub nothing_counted : Totals
nothing_counted = record { records = 0; octets = 0; datagrams = 0; dropped = 0; port_faults = 0 }

-- The source gave octets, which are good records with this end; this was done with the records, counted by
-- these totals, and no write failed.
pub record SessionTo (kinds : AcceptedKinds) (source source' : SourceState) (sink sink' : SinkState)
    (Done : Totals → List Record → Type 0) (ending : RecordsEnd) : Type 0 where
  pub octets : List ℕ
  pub gives : GivesOctets source source' octets
  pub records : List Record
  pub reads : Reads kinds octets records ending
  pub totals : Totals
  pub done : Done totals records
  pub no_write : sink'.failures ≡ sink.failures

-- .. and no read failed
abbrev pub Ends : AcceptedKinds → SourceState → SourceState → SinkState → SinkState
    → (Totals → List Record → Type 0) → RecordsEnd → Type 0
Ends kinds source source' sink sink' Done ending =
    SessionTo kinds source source' sink sink' Done ending × (source'.failures ≡ source.failures)

-- .. to the end of the source, with these totals
pub record EndsAll (kinds : AcceptedKinds) (source source' : SourceState) (sink sink' : SinkState)
    (Done : Totals → List Record → Type 0) (totals : Totals) : Type 0 where
  pub ends : Ends kinds source source' sink sink' Done endings.End
  pub ended : IsAtEnd source'.to_come
  pub totals_are : totals ≡ ends.0.totals

-- A write failed: the octets given by the source begin with good records, and this was done with them.
pub record FailsToWrite (kinds : AcceptedKinds) (source source' : SourceState) (sink sink' : SinkState)
    (Begun : List Record → Type 0) : Type 0 where
  pub octets : List ℕ
  pub gives : GivesOctets source source' octets
  pub records : List Record
  pub begins : BeginsWith kinds octets records
  pub begun : Begun records
  pub counted : sink.failures < sink'.failures
  pub no_read : source'.failures ≡ source.failures

-- The end of a session before that of its source: with the fault of an invalid record, cut only if the source
-- is at its end; by a read, which failed, or there were 2 ^ 62 of them, each of which gave an octet, so no
-- invalid record is first there; or by a write.
abbrev pub EndsUntil : AcceptedKinds → SourceState → SourceState → SinkState → SinkState
    → (Totals → List Record → Type 0) → (List Record → Type 0) → RunFault → Type 0
EndsUntil kinds source source' sink sink' Done Begun faults.BadKind =
    Ends kinds source source' sink sink' Done endings.BadKind
EndsUntil kinds source source' sink sink' Done Begun faults.BadCircuit =
    Ends kinds source source' sink sink' Done endings.BadCircuit
EndsUntil kinds source source' sink sink' Done Begun faults.BadCommand =
    Ends kinds source source' sink sink' Done endings.BadCommand
EndsUntil kinds source source' sink sink' Done Begun faults.Truncated =
    Ends kinds source source' sink sink' Done endings.Truncated × IsAtEnd source'.to_come
EndsUntil kinds source source' sink sink' Done Begun faults.Read = (ending : RecordsEnd)
    × (s : SessionTo kinds source source' sink sink' Done ending) × GivesUp source source' s.octets
    × (is_open ending ≡ true)
EndsUntil kinds source source' sink sink' Done Begun faults.Write =
    FailsToWrite kinds source source' sink sink' Begun
EndsUntil kinds source source' sink sink' Done Begun faults.OutOfMemory = ⊥

-- .. or out of memory, with everything unchanged
abbrev pub OrNoMemory : Type 0 → (RunFault → Type 0) → RunFault → Type 0
OrNoMemory kept Until faults.OutOfMemory = kept
OrNoMemory kept Until fault = Until fault
