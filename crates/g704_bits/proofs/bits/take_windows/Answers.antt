use Rattle.std.proofs.Common.{rules}
use Rattle.g704_bits.proofs.Octets.{bit-at, stands-window}
use Rattle.g704_bits.proofs.bits.take_windows.Goals as goal

pub loop-bit-preserved : goal.loop-bit-preserved
loop-bit-preserved c = search (rules, stands-window, bit-at)
