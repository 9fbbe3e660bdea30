use Rattle.std.proofs.Common.{arith, sym, append-nil}
use Rattle.gw_tell.proofs.Reporting.{counts_on, no_counts_yet}
use Rattle.gw_tell.proofs.report.push_all_counts.Goals as goal

pub loop-number-init : goal.loop-number-init
loop-number-init c = record {
  some = omega arith;
  most = omega arith;
  len = omega arith;
  lines = rw (no_counts_yet c.args.all c.args.counts.now) (sym (append-nil c.args.text.now.items));
}

pub loop-number-preserved : goal.loop-number-preserved
loop-number-preserved c =
    let w = c.loop-number.invariant in
    record {
      some = omega arith;
      most = omega arith;
      len = omega arith;
      lines = counts_on _ _ c.loop-number.number _ _ _ c.args.text.now.items _ _ w.some
          (omega (arith, c.told-counts)) c.circuit.ensures c.from.ensures w.lines c.push_if_told.ensures.line;
    }
