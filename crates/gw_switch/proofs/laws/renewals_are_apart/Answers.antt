use Rattle.gw_switch.proofs.RenewedViews.{apart}
use Rattle.gw_switch.proofs.laws.renewals_are_apart.Goals as goal

pub returns : goal.returns
returns c = apart
