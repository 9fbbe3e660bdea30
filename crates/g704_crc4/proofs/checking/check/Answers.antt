use Rattle.g704_crc4.proofs.Common.{take, subst, ChecksAfter, arith}
use Rattle.g704_crc4.proofs.Counted.{count-more, next-octet, count-all}
use Rattle.g704_crc4.proofs.checking.check.Goals as goal

pub loop-octet-preserved : goal.loop-octet-preserved
loop-octet-preserved c =
    let octets = c.args.octets.now in
    let i = c.loop-octet.octet-index in
    let so = c.loop-octet.invariant in
    record {
      stands = subst (ChecksAfter c.octet.new.self) (next-octet octets i c.loop-octet-test.true)
          (c.octet.ensures.stands (take i octets) so.stands);
      counted = grind (arith, count-more octets i c.loop-octet.counts c.loop-octet-test.true);
    }

pub returns : goal.returns
returns c = cc (count-all c.args.octets.now c.loop-octet.octet-index c.loop-octet.counts c.loop-octet-test.false)
