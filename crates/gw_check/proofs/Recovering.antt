-- Replays recover the state of live sessions.
use Rattle.std.proofs.Common.{Result, Ok, Err}
use Rattle.std.specs.Prelude.{IfOk, IfErr}
use Rattle.gw_switch.specs.declared.gateway.Gateway.{Gateway}
use Rattle.gw_records.specs.declared.outcome.RunFault.{RunFault}
use Rattle.gw_records.specs.declared.outcome.Totals.{Totals}
use Rattle.gw_records.specs.Streams.{SourceState, SinkState}
use Rattle.gw_session.specs.Recovery.{CutRecordingsRecover}
use Rattle.gw_session.specs.Running.{RunsAll, RunsUntil}
use Rattle.gw_check.specs.Sessions.{Runs}

-- a run recovers, whatever ended it
pub recovering : CutRecordingsRecover → (source source' : SourceState) (sink sink' : SinkState)
    (gateway gateway' : Gateway) (end : Result Totals RunFault)
    → IfOk end (RunsAll gateway gateway' source source' sink sink')
    → IfErr end (RunsUntil gateway gateway' source source' sink sink')
    → Runs source source' sink sink' end gateway gateway'
recovering law source source' sink sink' gateway gateway' (Ok totals) ok err =
    record { ran = ok; recovers = law source source' sink sink' gateway gateway' (Ok totals) ok }
recovering law source source' sink sink' gateway gateway' (Err fault) ok err =
    record { ran = err; recovers = law source source' sink sink' gateway gateway' (Err fault) err }
