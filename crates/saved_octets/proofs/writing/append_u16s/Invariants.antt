use Rattle.std.proofs.Common.{◌≡◌, ◌++◌, take, flat_map}
use Rattle.saved_octets.specs.Numbers.{two_octets}
use Rattle.saved_octets.proofs.writing.append_u16s.Given as goal

abbrev pub invariant-loop-number : goal.invariant-loop-number
invariant-loop-number l =
    l.out.items ≡ l.initial.out.items ++ flat_map two_octets (take l.number-index l.numbers)
