use Rattle.g704_crc4.proofs.Common.{arith}
use Rattle.g704_crc4.proofs.Numbers.{number-below, entry-is}
use Rattle.g704_crc4.proofs.remainder.number_after.Goals as goal

pub returns : goal.returns
returns c remainder e = grind (arith, number-below remainder, entry-is remainder c.args.octet (omega arith))
