use Rattle.gw_satop.proofs.Turning.{anyway}
use Rattle.gw_satop.proofs.carrying.carry_satop.Goals as goal

pub returns-then-branch-clause-hears : goal.returns-then-branch-clause-hears
returns-then-branch-clause-hears g c = anyway c.flush.result
    (c.loop-turn.circuit.peer, rw c.flush.ensures.only.peer c.in_ok-turn.ensures.hears)
