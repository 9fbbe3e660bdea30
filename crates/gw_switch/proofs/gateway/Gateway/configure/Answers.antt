use Rattle.gw_switch.proofs.Common.{CircuitEvent}
use Rattle.gw_switch.proofs.Views.{stands_given}
use Rattle.gw_switch.proofs.gateway.Gateway.configure.Goals as goal

pub returns-clause-stands : goal.returns-clause-stands
returns-clause-stands c = λ config events h.
    stands_given config c.args.self.now events c.args.c (CircuitEvent.Configure c.args.config.now)
    c.at.result.now c.configure.new.self h c.at.ensures.number c.at.ensures.value c.in_ok-configure.ensures.stands
