use Rattle.std.proofs.Common.{arith}
use Rattle.log_files.proofs.Checksums.{sums_more}
use Rattle.log_files.proofs.adler.Adler.add.Goals as goal

pub loop-octet-preserved : goal.loop-octet-preserved
loop-octet-preserved c = record {
  sums = λ before so. sums_more before _ _ _ _ _ c.loop-octet-test.true (c.loop-octet.invariant.sums before so)
      (cc) c.reduced-self-inside-in-loop-octet.ensures;
  one = omega arith;
  two = omega arith;
}
