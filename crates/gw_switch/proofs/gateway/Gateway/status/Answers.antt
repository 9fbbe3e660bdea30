use Rattle.gw_switch.proofs.Views.{lent_after}
use Rattle.gw_switch.proofs.gateway.Gateway.status.Goals as goal

pub returns : goal.returns
returns c = λ config events h.
    c.status.ensures _ _ _ (lent_after config c.args.self.now events c.args.c c.get.result.now h c.get.ensures.number
    c.get.ensures.value)
