use Rattle.std.proofs.Common.{◌∙◌, refl}
use Rattle.std.proofs.Math.Logic.{∥∥₁_map}
use Rattle.gw_satop.proofs.Counting.{counted-alike}
use Rattle.gw_satop.proofs.Turning.{listened}
use Rattle.gw_satop.proofs.circuit.SatopCircuit.listen.Goals as goal

pub invariant_of-self : goal.invariant_of-self
invariant_of-self g c = record {
  plays = ∥∥₁_map c.args.self.now.plays (λ k. listened _ _ _ _ _ _ _ _
      (rw c.now-now.ensures at c.listen-begins.ensures.stands)
      (c.listen.ensures ∙ rw (c.listen-begins.ensures.begins, c.now-now.ensures) refl) c.listen-begins.ensures.timing
      k);
  sends = c.args.self.now.sends;
  counted = ∥∥₁_map c.args.self.now.counted
      (counted-alike _ _ _ _ (rw c.listen.ensures refl) (rw c.listen.ensures refl));
}
