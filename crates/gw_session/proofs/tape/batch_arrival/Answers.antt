use Rattle.gw_session.proofs.Taping.{batches_join}
use Rattle.gw_session.proofs.tape.batch_arrival.Goals as goal

pub returns-clause-batches : goal.returns-clause-batches
returns-clause-batches g c = batches_join _ _ _ _ _ c.batch_octets.ensures.batches c.batch_datagram.ensures.batches
