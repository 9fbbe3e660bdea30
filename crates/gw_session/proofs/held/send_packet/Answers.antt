use Rattle.gw_session.proofs.PacketsSent.{sends_taken, sends_failed}
use Rattle.gw_session.proofs.held.send_packet.Goals as goal

pub returns-then-branch-clause-sends : goal.returns-then-branch-clause-sends
returns-then-branch-clause-sends g c =
    let went = rw (c.if-branch.true, c.as_slice.ensures.value) at c.in_ok-send_datagram.ensures.went in
    sends_taken _ _ _ _ _ went.0 went.1 went.2 c.send_datagram.ensures.receives_stay c.saturating_add-totals.ensures

pub returns-else-branch-clause-sends : goal.returns-else-branch-clause-sends
returns-else-branch-clause-sends g c =
    let went = rw (c.if-branch.false, c.as_slice.ensures.value) at c.in_ok-send_datagram.ensures.went in
    sends_failed _ _ _ _ _ went.0 went.1 went.2 c.send_datagram.ensures.receives_stay
    c.saturating_add-totals-else-branch.ensures
