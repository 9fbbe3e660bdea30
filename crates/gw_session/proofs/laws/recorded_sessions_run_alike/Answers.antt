use Rattle.gw_session.proofs.RunAlike.{run_alike}
use Rattle.gw_session.proofs.laws.recorded_sessions_run_alike.Goals as goal

pub returns : goal.returns
returns c = run_alike
