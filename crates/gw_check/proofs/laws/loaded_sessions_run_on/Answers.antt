use Rattle.gw_check.proofs.Continuing.{run_on}
use Rattle.gw_check.proofs.laws.loaded_sessions_run_on.Goals as goal

pub returns : goal.returns
returns c = run_on c.loaded_gateways_go_on.ensures c.cut_by_history.ensures
