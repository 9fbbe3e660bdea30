use Rattle.g726_lanes.proofs.Common.{◌≡◌, ◌+◌, ◌*◌, sym, arith, ints, lane}
use Rattle.g726_lanes.proofs.AdaptationUpdates.{is_in_lane}
use Rattle.g726_lanes.proofs.adaptations.Adaptations.store.Goals as goal

pub of_numbers-requires : goal.of_numbers-requires
of_numbers-requires c =
    let k = c.args.k in
    let h = c.requires in
    let kept = c.self.invariant in
    record {
      yu_low = omega (arith, ints, kept.yu_low k h);
      yu_high = omega (arith, ints, kept.yu_high k h);
      yl_low = omega (arith, ints, kept.low k h);
      yl_high = omega (arith, ints, kept.high k h);
      dms_low = omega (arith, ints);
      dms_high = omega (arith, ints, kept.dms_few k h);
      dml_low = omega (arith, ints);
      dml_high = omega (arith, ints, kept.dml_few k h);
      ap_low = omega (arith, ints);
      ap_high = omega (arith, ints, kept.ap_few k h);
    }

pub returns : goal.returns
returns c =
    let s = c.self.inside in
    let k = c.args.k in
    let yl : c.from.result * 64 + c.from-2.result ≡ 64 * lane s.whole k + lane s.fraction k =
    rw (c.from.ensures, c.from-2.ensures) (omega arith) in
    rw (c.of_numbers.ensures, yl) (sym (is_in_lane s c.self.view_is k c.requires))
