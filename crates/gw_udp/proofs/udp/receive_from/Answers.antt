use Rattle.gw_udp.proofs.Receiving.{first_of_any}
use Rattle.gw_udp.proofs.udp.receive_from.Goals as goal

pub returns-in-Any-clause-none : goal.returns-in-Any-clause-none
returns-in-Any-clause-none g c = λ e none. rw e at c.receive_any.ensures.receives

pub returns-in-Any-clause-received : goal.returns-in-Any-clause-received
returns-in-Any-clause-received g c = rw c.in-Any.is
    (first_of_any g.S.Socket.receives c.args.peer.now c.args.first _ _ _ _ c.receive_any.ensures.receives)
