use Rattle.gw_switch.proofs.GatewayLoading.{same-stands}
use Rattle.gw_switch.proofs.laws.same_states_have_one_history.Goals as goal

pub returns : goal.returns
returns c = λ config g other events same stands.
    (same-stands config g other events same.trunk same.circuits stands).1
