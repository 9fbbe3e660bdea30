use Rattle.gw_switch.proofs.Renewing.{renewed}
use Rattle.gw_switch.proofs.laws.renewals_configure.Goals as goal

pub returns : goal.returns
returns c = renewed
