use Rattle.gw_udp.proofs.Looks.{none_since}
use Rattle.gw_udp.proofs.udp.UdpPorts.limit.Goals as goal

pub invariant_of-self : goal.invariant_of-self
invariant_of-self g c = record {
  thirty = c.args.self.now.thirty;
  memory = c.args.self.now.memory;
  called = c.args.self.now.called;
  few = λ _. ∣ rw (c.limit.ensures, c.of-self.ensures) (none_since _) ∣₁;
}
