use Rattle.std.proofs.Common.{◌∙◌, arith, refl, length-set, rules}
use Rattle.gw_tell.proofs.Reporting.{step_on, rest_on, none_yet}
use Rattle.gw_tell.proofs.report.report_rows.Goals as goal

pub loop-number-init : goal.loop-number-init
loop-number-init c = record {
  some = omega arith;
  most = omega arith;
  count = search rules;
  len = omega arith;
  steps = none_yet _ _ _ _ _;
  rest = λ k b. refl;
}

pub loop-number-preserved : goal.loop-number-preserved
loop-number-preserved c =
    let w = c.loop-number.invariant in
    record {
      some = omega arith;
      most = omega arith;
      count = length-set _ _ _ ∙ w.count;
      len = omega arith;
      steps = step_on _ c.args.told.now c.loop-number.told c.args.is.now _ _ _ c.loop-number.number c.circuit.result
          c.from-i.result c.index-told-i.result c.index-is-i.result c.report_row.new.told w.some
          (omega (arith, w.count)) (omega (arith, c.type_inv.is)) c.circuit.ensures c.from-i.ensures
          w.rest w.steps c.report_row.ensures.step;
      rest = rest_on _ _ _ _ _ w.some c.from-i.ensures w.rest;
    }
