use Rattle.gw_session.proofs.Common.{[], arith, common_steps, nil_from_length, Record, refl}
use Rattle.gw_session.proofs.Taping.{batches_none, batches_join, batches_more, batches_recorded}
use Rattle.gw_session.proofs.tape.batch_octets.Goals as goal

pub returns-then-is_empty-clause-batches : goal.returns-then-is_empty-clause-batches
returns-then-is_empty-clause-batches g c =
    rw (nil_from_length c.args.octets.now (grind (arith, common_steps))) (batches_none _ _ _ refl)

pub returns-then-make_room-clause-batches : goal.returns-then-make_room-clause-batches
returns-then-make_room-clause-batches g c =
    batches_join _ _ _ [] _ c.make_room.ensures.batches
    (batches_more _ _ _ (Record.Trunk c.args.octets.now) (refl, c.requires) c.append.ensures)

pub returns-else-make_room-clause-batches : goal.returns-else-make_room-clause-batches
returns-else-make_room-clause-batches g c =
    let empty = c.make_room.ensures.empty c.if-make_room.false in
    batches_join _ _ _ [] _ c.make_room.ensures.batches (batches_recorded _ _ _ _ _ empty empty
    c.put.ensures.recorded c.put.ensures.acts)
