use Rattle.gw_check.proofs.Continuing.{serve_on}
use Rattle.gw_check.proofs.laws.loaded_servings_go_on.Goals as goal

pub returns : goal.returns
returns c = serve_on c.loaded_gateways_go_on.ensures c.serving_is_cut_anywhere.ensures
