use Rattle.std.proofs.Common.{ap}
use Rattle.gw_records.specs.declared.log.Log.{Log}
use Rattle.gw_trunk.proofs.Passing.{none-passed}
use Rattle.gw_trunk.proofs.sink.TrunkRecordSink.new.Goals as goal

pub invariant_of-result : goal.invariant_of-result
invariant_of-result g c = record {
  passed = none-passed _ _ (ap (λ (l : Log). l.octets) c.new.ensures) c.requires.went;
}
