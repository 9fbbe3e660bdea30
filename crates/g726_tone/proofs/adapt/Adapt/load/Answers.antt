use Rattle.std.proofs.Common.{◌++◌, ◌∷◌, Some, ap}
use Rattle.saved_octets.specs.Numbers.{flag_octet}
use Rattle.g726_tone.specs.Adaptation.{Adaptation}
use Rattle.g726_tone.specs.Saved.{saved_adaptation, saved_speeds}
use Rattle.g726_tone.proofs.Reading.{same, two_read, three_read, flag_read}
use Rattle.g726_tone.proofs.adapt.Adapt.load.Goals as goal

pub returns-in_err-dms-clause-loaded : goal.returns-in_err-dms-clause-loaded
unfolding saved_adaptation
returns-in_err-dms-clause-loaded c = λ s rest r e.
    let flag = flag_octet s.td ∷ rest in
    let scales = c.load_scales.ensures.loaded s.yu s.yl (saved_speeds s.dms s.dml s.ap ++ flag)
    (r.yu_low, r.yu_high, r.yl_low, r.yl_high) e in
    let speeds = c.in_err-dms.ensures.loaded s.dms s.dml s.ap flag
    (r.dms_low, r.dms_high, r.dml_low, r.dml_high, r.ap_low, r.ap_high) scales.1 in
    absurd (cc speeds.0)

pub returns-in_err-td-clause-loaded : goal.returns-in_err-td-clause-loaded
unfolding saved_adaptation
returns-in_err-td-clause-loaded c = λ s rest r e.
    let flag = flag_octet s.td ∷ rest in
    let scales = c.load_scales.ensures.loaded s.yu s.yl (saved_speeds s.dms s.dml s.ap ++ flag)
    (r.yu_low, r.yu_high, r.yl_low, r.yl_high) e in
    let speeds = c.load_speeds.ensures.loaded s.dms s.dml s.ap flag
    (r.dms_low, r.dms_high, r.dml_low, r.dml_high, r.ap_low, r.ap_high) scales.1 in
    absurd (cc (c.in_err-td.ensures.next s.td rest speeds.1).0)

pub returns-clause-loaded : goal.returns-clause-loaded
unfolding saved_adaptation
returns-clause-loaded c = λ s rest r e.
    let flag = flag_octet s.td ∷ rest in
    let scales = c.load_scales.ensures.loaded s.yu s.yl (saved_speeds s.dms s.dml s.ap ++ flag)
    (r.yu_low, r.yu_high, r.yl_low, r.yl_high) e in
    let speeds = c.load_speeds.ensures.loaded s.dms s.dml s.ap flag
    (r.dms_low, r.dms_high, r.dml_low, r.dml_high, r.ap_low, r.ap_high) scales.1 in
    let read = c.read_bool.ensures.next s.td rest speeds.1 in
    let one = (c.in_ok-yu.ensures.loaded s.yu s.yl (saved_speeds s.dms s.dml s.ap ++ flag)
    (r.yu_low, r.yu_high, r.yl_low, r.yl_high) e).0 in
    let two = (c.in_ok-dms.ensures.loaded s.dms s.dml s.ap flag
    (r.dms_low, r.dms_high, r.dml_low, r.dml_high, r.ap_low, r.ap_high) scales.1).0 in
    let three = (c.in_ok-td.ensures.next s.td rest speeds.1).0 in
    let scale = two_read _ _ _ _ one in
    let speed = three_read _ _ _ _ _ _ two in
    let td = flag_read _ _ three in (
      ap (λ (a : Adaptation). Some a)
          (same s _ _ _ _ _ _ r scale.0 scale.1 speed.0 speed.1 speed.2 td),
      read.1,
    )
