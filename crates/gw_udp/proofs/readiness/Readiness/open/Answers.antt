use Rattle.std.proofs.Common.{arith}
use Rattle.gw_udp.proofs.Resting.{all-few}
use Rattle.gw_udp.proofs.readiness.Readiness.open.Goals as goal

pub invariant_of-result : goal.invariant_of-result
invariant_of-result g c = record {
  few = λ k below. all-few 0 k below (omega arith);
  bound = λ k below. all-few 799 k below (omega arith);
}
