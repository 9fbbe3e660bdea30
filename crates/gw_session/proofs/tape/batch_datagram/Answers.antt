use Rattle.gw_session.proofs.Common.{[], arith, Record, rules}
use Rattle.gw_session.proofs.Taping.{recorded_long, batches_join, batches_more, batches_recorded, batches_written}
use Rattle.gw_session.proofs.tape.batch_datagram.Goals as goal

pub returns-then-octets-gt-LONGEST-clause-batches : goal.returns-then-octets-gt-LONGEST-clause-batches
returns-then-octets-gt-LONGEST-clause-batches g c =
    let empty = c.write_batch.ensures.empty in
    batches_join _ _ _ [] _ (batches_written _ _ _ _ c.write_batch.ensures.written c.write_batch.ensures.acts empty)
    (batches_recorded _ _ _ _ _ empty empty
    (recorded_long _ _ _ _ c.end.ensures (omega (arith, c.if-octets-gt-LONGEST.true))) c.end.ensures.2)

pub returns-then-make_room-clause-batches : goal.returns-then-make_room-clause-batches
returns-then-make_room-clause-batches g c =
    let circuit = c.get.ensures.value in
    batches_join _ _ _ [] _ c.make_room.ensures.batches
    (batches_more _ _ _ (Record.Datagram c.args.circuit c.args.octets.now) (search rules)
    (rw circuit at c.append.ensures))

pub returns-else-make_room-clause-batches : goal.returns-else-make_room-clause-batches
returns-else-make_room-clause-batches g c =
    let empty = c.make_room.ensures.empty c.if-make_room.false in
    batches_join _ _ _ [] _ c.make_room.ensures.batches (batches_recorded _ _ _ _ _ empty empty
    c.put.ensures.recorded c.put.ensures.acts)
