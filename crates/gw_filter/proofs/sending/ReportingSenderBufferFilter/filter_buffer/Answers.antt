use Rattle.gw_filter.proofs.Sends.{more_sent}
use Rattle.gw_filter.proofs.sending.ReportingSenderBufferFilter.filter_buffer.Goals as goal

pub returns-clause-stands : goal.returns-clause-stands
returns-clause-stands g c taken returned s =
    more_sent _ _ _ _ _ _ _ _ _ s c.take_reports-n.ensures.reads.gave
    (c.send_all.ensures.sent _ _ (c.report_all.ensures _ _ s.sends))
