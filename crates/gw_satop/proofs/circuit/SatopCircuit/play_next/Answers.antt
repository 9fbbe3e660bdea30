use Rattle.std.proofs.Math.Logic.{∥∥₁_map}
use Rattle.gw_satop.proofs.Counting.{counted-alike}
use Rattle.gw_satop.proofs.circuit.SatopCircuit.play_next.Goals as goal

pub invariant_of-self : goal.invariant_of-self
invariant_of-self g c = record {
  plays = ∥∥₁_map c.args.self.now.plays (λ k. c.play_into.ensures.plays _ _ _ k);
  sends = c.args.self.now.sends;
  counted = ∥∥₁_map c.args.self.now.counted
      (counted-alike _ _ _ _ c.play_into.ensures.sent c.play_into.ensures.unsent);
}
