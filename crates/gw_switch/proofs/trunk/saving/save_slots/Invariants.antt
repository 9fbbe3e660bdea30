use Rattle.gw_switch.proofs.Common.{◌≡◌, ◌++◌, take, saved_slots}
use Rattle.gw_switch.proofs.trunk.saving.save_slots.Given as goal

abbrev pub invariant-loop-slot : goal.invariant-loop-slot
invariant-loop-slot l =
    l.out.items ≡ l.initial.out.items ++ saved_slots (take l.slot-index l.slots)
