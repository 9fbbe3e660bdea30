use Rattle.gw_filter.proofs.Checks.{none_checked}
use Rattle.gw_filter.proofs.checking.ReportingChecker.new.Goals as goal

pub returns-clause-begins : goal.returns-clause-begins
returns-clause-begins g c = none_checked _ _ c.new.ensures c.requires
