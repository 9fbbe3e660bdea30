use Rattle.std.proofs.Math.Logic.{∥∥₁_map}
use Rattle.gw_satop.proofs.Turning.{planned}
use Rattle.gw_satop.proofs.circuit.SatopCircuit.plan.Goals as goal

pub invariant_of-self : goal.invariant_of-self
invariant_of-self g c = record {
  plays = ∥∥₁_map c.args.self.now.plays (λ k. planned _ _ _ _ _ _ _ _ c.reach-reach.ensures
      (rw c.now-now.ensures at c.plan.ensures.stands) c.plan.ensures.timing k);
  sends = c.args.self.now.sends;
  counted = c.args.self.now.counted;
}
