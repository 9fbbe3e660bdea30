use Rattle.std.proofs.Common.{arith, inr}
use Rattle.gw_satop.proofs.circuit.put_out.Goals as goal

pub returns-clause-fault : goal.returns-clause-fault
returns-clause-fault g c =
    let last = c.loop-turn-test.false in
    inr (inr (omega (arith, c.loop-turn.invariant.turns (omega (arith, last)), last)))
