use Rattle.std.proofs.Common.{refl}
use Rattle.gw_udp.proofs.Looks.{none_since}
use Rattle.gw_udp.proofs.udp.UdpPortsPorts.look.Goals as goal

pub invariant_of-self : goal.invariant_of-self
invariant_of-self g c = record {
  thirty = c.args.self.now.thirty;
  memory = c.args.self.now.memory;
  called = c.args.self.now.called;
  few = λ _. ∣ rw (c.clear.ensures, c.of-self.ensures) (none_since _) ∣₁;
}

pub returns-clause-looked : goal.returns-clause-looked
returns-clause-looked g c = record {
  asked = c.look.ensures.asks;
  cleared = rw c.clear.ensures refl;
  from_here = rw c.of-self.ensures refl;
}
