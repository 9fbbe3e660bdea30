use Rattle.std.proofs.Common.{◌≡◌, ◌++◌, ◌<◌, ◌^◌, take, All, flat_map}
use Rattle.saved_octets.specs.Numbers.{two_octets}
use Rattle.saved_octets.proofs.reading.OctetReader.read_u16_into.Given as goal

abbrev pub invariant-loop-i : goal.invariant-loop-i
invariant-loop-i l = record {
  octets : l.initial.self ≡ flat_map two_octets (take l.i l.numbers) ++ l.self;
  below : All (λ n. n < 2 ^ 16) (take l.i l.numbers);
}
