use Rattle.std.proofs.Common.{◌*◌}
use Rattle.rtp_pack.proofs.Packed.{Packed}
use Rattle.rtp_pack.proofs.packing.pack_halves.Given as goal

-- the words so far are in the octets
abbrev pub invariant-loop-i : goal.invariant-loop-i
invariant-loop-i l = Packed 4 l.words (2 * l.i) l.out.items 0 0
