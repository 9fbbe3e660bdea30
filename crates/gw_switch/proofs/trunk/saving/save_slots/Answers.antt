use Rattle.gw_switch.proofs.Common.{None, slice_index_or, arith, refl, take_all, saved_slot}
use Rattle.gw_switch.proofs.Loading.{one-saved}
use Rattle.gw_switch.proofs.trunk.saving.save_slots.Goals as goal

pub loop-slot-preserved : goal.loop-slot-preserved
loop-slot-preserved c =
    let before = c.loop-slot-test.true in
    one-saved saved_slot c.args.slots.now c.loop-slot.slot-index
    (slice_index_or c.args.slots.now c.loop-slot.slot-index None) None c.args.out.now.items _ _ c.loop-slot.invariant
    c.in_ok-save_slot.ensures refl (omega arith)

pub returns-clause-octets : goal.returns-clause-octets
returns-clause-octets c =
    let over = c.loop-slot-test.false in
    rw (take_all c.loop-slot.slot-index c.args.slots.now (omega arith)) at c.loop-slot.invariant
