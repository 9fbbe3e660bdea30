use Rattle.std.proofs.Math.Logic.{∥∥₁_map}
use Rattle.gw_satop.proofs.Turning.{turned}
use Rattle.gw_satop.proofs.circuit.SatopCircuit.advance.Goals as goal

pub invariant_of-self : goal.invariant_of-self
invariant_of-self g c = record {
  plays = ∥∥₁_map c.args.self.now.plays (λ k. turned _ _ _ _ _ _ _ _ c.advance.ensures.stands c.advance.ensures.timing
      k);
  sends = c.args.self.now.sends;
  counted = c.args.self.now.counted;
}
