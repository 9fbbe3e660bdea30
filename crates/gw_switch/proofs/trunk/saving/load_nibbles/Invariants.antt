use Rattle.gw_switch.proofs.Common.{◌≡◌, ◌++◌, length, take, All, saved_nibbles, IsNibble}
use Rattle.gw_switch.proofs.trunk.saving.load_nibbles.Given as goal

abbrev pub invariant-loop-i : goal.invariant-loop-i
invariant-loop-i l = record {
  octets : l.initial.octets ≡ saved_nibbles (take l.i l.nibbles) ++ l.octets;
  many : length l.nibbles ≡ 30;
  each : All IsNibble (take l.i l.nibbles);
}
