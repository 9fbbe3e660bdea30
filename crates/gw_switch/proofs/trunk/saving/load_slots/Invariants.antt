use Rattle.gw_switch.proofs.Common.{◌≡◌, ◌++◌, length, take, saved_slots}
use Rattle.gw_switch.proofs.trunk.saving.load_slots.Given as goal

abbrev pub invariant-loop-i : goal.invariant-loop-i
invariant-loop-i l = record {
  octets : l.initial.octets ≡ saved_slots (take l.i l.slots) ++ l.octets;
  many : length l.slots ≡ 32;
}
