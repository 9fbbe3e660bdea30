use Rattle.std.proofs.Common.{refl}
use Rattle.std.proofs.Math.Logic.{∥∥₁_map}
use Rattle.gw_satop.proofs.circuit.SatopCircuit.take.Goals as goal

pub send_all-requires : goal.send_all-requires
send_all-requires g c =
    let k = c.args.self.now.sends in
    record { came_are = refl; sent_are = rw k.came_are k.sent_are; rest = k.rest }

pub invariant_of-self-in-Octets : goal.invariant_of-self-in-Octets
invariant_of-self-in-Octets g c =
    let came = rw (c.in-Octets.is) at c.in_ok-n.ensures.came in
    record {
      plays = rw c.send_all.ensures.received (∥∥₁_map c.args.self.now.plays
          (λ k. c.send_all.ensures.plays _ _ _ _ c.is_silent.ensures k));
      sends = rw (came, ← c.args.self.now.sends.came_are) c.send_all.ensures.sends;
      counted = ∥∥₁_map c.args.self.now.counted c.send_all.ensures.counted;
    }
