use Rattle.gw_switch.proofs.Common.{inr, refl, [], ◌∷◌, CircuitEvent, Event}
use Rattle.gw_switch.proofs.gateway.Gateway.renew.Goals as goal

pub returns : goal.returns
returns c = (
  Event.Given c.args.c (CircuitEvent.Configure c.args.new.now) ∷ [],
  inr (c.is_same.ensures.other c.if-is_same.false, refl),
  c.in_ok-configure.ensures.stands,
)
