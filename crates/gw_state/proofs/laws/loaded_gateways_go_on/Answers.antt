use Rattle.gw_state.proofs.Continuing.{loaded_gateways_go_on}
use Rattle.gw_state.proofs.laws.loaded_gateways_go_on.Goals as goal

pub returns : goal.returns
returns c = loaded_gateways_go_on
