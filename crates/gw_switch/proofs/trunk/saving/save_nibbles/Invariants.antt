use Rattle.gw_switch.proofs.Common.{◌≡◌, ◌++◌, take, All, saved_nibbles, IsNibble}
use Rattle.gw_switch.proofs.trunk.saving.save_nibbles.Given as goal

abbrev pub invariant-loop-nibble : goal.invariant-loop-nibble
invariant-loop-nibble l = record {
  octets : l.out.items ≡ l.initial.out.items ++ saved_nibbles (take l.nibble-index l.nibbles);
  fits : All IsNibble (take l.nibble-index l.nibbles);
}
