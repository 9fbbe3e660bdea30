use Rattle.gw_log.specs.Resuming.{HaveSameCircuits}
use Rattle.gw_log.proofs.resuming.have_same_circuits.Given as goal

abbrev pub invariant-loop-at : goal.invariant-loop-at
invariant-loop-at l = HaveSameCircuits l.old l.config l.at
