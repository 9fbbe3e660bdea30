use Rattle.gw_check.proofs.Continuing.{saved_recover}
use Rattle.gw_check.proofs.laws.saved_states_recover.Goals as goal

pub returns : goal.returns
returns c = saved_recover c.loaded_gateways_go_on.ensures
