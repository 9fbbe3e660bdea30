use Rattle.std.proofs.Common.{◌∙◌, refl}
use Rattle.std.proofs.Math.Logic.{∥∥₁_map}
use Rattle.gw_satop.proofs.Counting.{counted-datagram}
use Rattle.gw_satop.proofs.Turning.{heard}
use Rattle.gw_satop.proofs.circuit.SatopCircuit.hear.Goals as goal

pub invariant_of-self-2 : goal.invariant_of-self-2
invariant_of-self-2 g c = record {
  plays = ∥∥₁_map c.args.self.now.plays (λ k. rw c.in-Some.ensures.received
      (heard c.args.self.now.receiver c.receive-outcome.new.self c.args.self.now.pace c.receive-outcome.new.pace
      c.args.self.now.counts _ _ _ _ _ c.receive-outcome.result
      c.receive-outcome.ensures.settings c.receive-outcome.ensures.rtp
      (rw c.now-now.ensures at c.receive-outcome.ensures.receipt) c.receive-outcome.ensures.stands
      c.receive-outcome.ensures.given (rw c.now-now.ensures at c.receive-outcome.ensures.pace)
      c.receive-outcome.ensures.timing (c.bits.ensures ∙ rw (c.receive-2.ensures, c.control-control.ensures) refl) k));
  sends = rw c.receive.ensures.sent c.args.self.now.sends;
  counted = rw c.receive.ensures.sent (∥∥₁_map c.args.self.now.counted
      (counted-datagram _ _ c.receive-outcome.result c.control-control.result _ _
      (c.bits.ensures ∙ rw (c.receive-2.ensures) refl)));
}
