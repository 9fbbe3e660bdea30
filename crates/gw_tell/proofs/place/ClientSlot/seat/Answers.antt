use Rattle.gw_tell.specs.Clients.{Seats}
use Rattle.gw_tell.proofs.place.ClientSlot.seat.Goals as goal

pub returns-in-Err-clause-seats : goal.returns-in-Err-clause-seats
unfolding Seats
returns-in-Err-clause-seats c = rw c.requires.free (
  c.give.new.self,
  rw c.in-Err.ensures.start c.new-client.ensures.start,
  rw c.new-client.ensures.sent at c.in-Err.ensures.err,
)
