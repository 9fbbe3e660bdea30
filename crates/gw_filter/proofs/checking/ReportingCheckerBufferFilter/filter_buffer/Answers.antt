use Rattle.gw_filter.proofs.Checks.{more_checked}
use Rattle.gw_filter.proofs.checking.ReportingCheckerBufferFilter.filter_buffer.Goals as goal

pub returns-clause-stands : goal.returns-clause-stands
returns-clause-stands g c taken returned s =
    let more = more_checked _ c.octets.new.self _ _ taken returned _ s (c.octets.ensures taken s.checks) in
    let done = c.report.ensures.stands _ _ more in
    rw (c.tell.ensures.checker, c.tell.ensures.reported, c.tell.ensures.reports) done

pub returns-clause-reports : goal.returns-clause-reports
returns-clause-reports g c history s =
    rw (c.tell.ensures.reports) (c.report.ensures.reports _ (c.octets.ensures history s))
