use Rattle.gw_log.proofs.Cuts.{logs_are_left}
use Rattle.gw_log.proofs.laws.logs_are_left.Goals as goal

pub returns : goal.returns
returns c = logs_are_left
