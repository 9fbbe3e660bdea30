use Rattle.g704_crc4.proofs.Common.{arith, since-nothing, parts}
use Rattle.g704_crc4.proofs.Alignments.{aligned-nil}
use Rattle.g704_crc4.proofs.receiving.Receiver.new.Goals as goal

pub returns : goal.returns
returns c = since-nothing parts _ (grind (arith, aligned-nil))
