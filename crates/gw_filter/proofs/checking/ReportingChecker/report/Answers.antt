use Rattle.std.proofs.Common.{arith}
use Rattle.gw_filter.proofs.Checks.{report_sent}
use Rattle.gw_filter.proofs.checking.ReportingChecker.report.Goals as goal

pub returns-then-send-clause-stands : goal.returns-then-send-clause-stands
returns-then-send-clause-stands g c octets returned s =
    report_sent _ _ _ c.min-count.result _ _ octets returned c.receiver_counts.result s
    (c.receiver_counts.ensures octets s.checks)
    (omega (arith, c.min-count.ensures, c.saturating_sub-unreported.ensures))
    (rw c.if-send.true at c.send.ensures.sent)
    (omega (arith, c.saturating_add-self.ensures, c.min-count.ensures, c.saturating_sub-unreported.ensures))
