use Rattle.std.proofs.Common.{arith}
use Rattle.g704_bits.proofs.Standing.{stands-octet-skipped}
use Rattle.g704_bits.proofs.aligner.Aligner.skip.Goals as goal

pub returns-clause-skipped : goal.returns-clause-skipped
returns-clause-skipped c did history windows s eight =
    stands-octet-skipped c.in-Aligned.age c.in-Aligned.wrong_fas c.in-Aligned.wrong_nfas c.args.self.now.offset _
    c.args.self.now.memory history windows (omega (arith, c.if-age-eq0.false)) (omega (arith, c.if-age.false))
    (omega arith) eight (rw (← c.in-Aligned.is) s)
