use Rattle.std.proofs.Common.{◌∙◌, inr, refl}
use Rattle.gw_tell.proofs.Alike.{same_status}
use Rattle.gw_tell.proofs.report.report_row.Goals as goal

pub returns-then-eq-clause-step : goal.returns-then-eq-clause-step
returns-then-eq-clause-step c =
    inr (same_status c.args.told.now c.quiet_at.result c.if-eq.ensures ∙ c.quiet_at.ensures, refl, refl)
