use Rattle.gw_session.proofs.Common.{refl}
use Rattle.gw_session.proofs.Taping.{batches_none, batches_written}
use Rattle.gw_session.proofs.tape.make_room.Goals as goal
use Rattle.gw_session.proofs.tape.make_room.Goals.{then-len-remaining_capacity, else-len-remaining_capacity}

pub returns-clause-batches : goal.returns-clause-batches
returns-clause-batches g c = elim c.if-len-remaining_capacity.branch [
  | then-len-remaining_capacity w ↦ rw (w.tape-is, w.batch-is)
      (batches_written _ _ _ _ w.write_batch.ensures.written w.write_batch.ensures.acts w.write_batch.ensures.empty)
  | else-len-remaining_capacity w ↦ rw (w.tape-is, w.batch-is) (batches_none _ _ _ refl)
]
