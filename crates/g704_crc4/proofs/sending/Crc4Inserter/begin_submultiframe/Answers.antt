use Rattle.g704_crc4.proofs.Common.{arith}
use Rattle.g704_crc4.proofs.Steps.{next-begins}
use Rattle.g704_crc4.proofs.sending.Crc4Inserter.begin_submultiframe.Goals as goal

pub returns-then-self-eq0 : goal.returns-then-self-eq0
returns-then-self-eq0 c history s = next-begins c.args.self.now history s (omega (arith, c.if-self-eq0.true))
