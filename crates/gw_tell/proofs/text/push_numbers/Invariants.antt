use Rattle.std.proofs.Common.{◌≡◌, ◌≤◌, ◌+◌, ◌*◌, ◌++◌, length, take}
use Rattle.std.specs.List.{flat_map}
use Rattle.gw_tell.specs.Lines.{spaced}
use Rattle.gw_tell.proofs.text.push_numbers.Given as goal

-- the numbers so far are there
abbrev pub invariant-loop-n : goal.invariant-loop-n
invariant-loop-n l = record {
  items : l.text.items ≡ l.fn.text.items ++ flat_map spaced (take l.n-index l.numbers);
  len : length l.text.items ≤ length l.fn.text.items + 21 * l.n-index;
}
