use Rattle.gw_switch.proofs.Views.{stands_waiting}
use Rattle.gw_switch.proofs.gateway.Gateway.release_seizures_after.Goals as goal

pub returns-clause-stands : goal.returns-clause-stands
returns-clause-stands c = λ config events h.
    stands_waiting config c.args.self.now events c.args.signals _ h c.release_after.ensures
