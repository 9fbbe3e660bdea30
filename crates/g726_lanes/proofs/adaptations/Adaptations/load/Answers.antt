use Rattle.g726_lanes.proofs.Common.{◌≡◌, ◌+◌, ◌*◌, ◌/◌, ◌%◌, Bool, true, false, sym, ◌∙◌, arith, refl, from_bool, ints}
use Rattle.g726_lanes.proofs.Common.{is_set, Inside}
use Rattle.g726_lanes.proofs.Each.{with_others}
use Rattle.g726_lanes.proofs.AdaptLanes.{scale_is}
use Rattle.g726_lanes.proofs.AdaptationUpdates.{is_in_lane}
use Rattle.g726_lanes.proofs.adaptations.Adaptations.load.Goals as goal
use Rattle.g726_lanes.proofs.adaptations.Adaptations.load.Goals.{After-put_lane-8}

pub invariant_of-self : goal.invariant_of-self
invariant_of-self c =
    let n = c.numbers-numbers.result in
    let old = c.self.invariant in
    let r = rw (← c.numbers-numbers.ensures.value) at c.numbers-numbers.ensures.in_range in
    let y = rw (← c.numbers-numbers.ensures.value) at c.scale.ensures.value in
    let yl : 64 * (n.yl / 64) + n.yl % 64 ≡ n.yl = omega arith in
    record {
      yu_low = with_others _ c.args.k (rw c.put_lane.ensures.own (omega (arith, ints, r.yu_low)))
          (λ j h o. rw (c.put_lane.ensures.others j h o) (old.yu_low j h));
      yu_high = with_others _ c.args.k (rw c.put_lane.ensures.own (omega (arith, ints, r.yu_high)))
          (λ j h o. rw (c.put_lane.ensures.others j h o) (old.yu_high j h));
      low = with_others _ c.args.k (rw c.put_lane-2.ensures.own (omega (arith, ints, r.yl_low)))
          (λ j h o. rw (c.put_lane-2.ensures.others j h o) (old.low j h));
      whole_high = with_others _ c.args.k (rw c.put_lane-2.ensures.own (omega (arith, ints, r.yl_high)))
          (λ j h o. rw (c.put_lane-2.ensures.others j h o) (old.whole_high j h));
      high = with_others _ c.args.k
          (rw (c.put_lane-2.ensures.own, c.put_lane-3.ensures.own) (omega (arith, ints, r.yl_high)))
          (λ j h o. rw (c.put_lane-2.ensures.others j h o, c.put_lane-3.ensures.others j h o) (old.high j h));
      fraction_few = with_others _ c.args.k (rw c.put_lane-3.ensures.own (omega arith))
          (λ j h o. rw (c.put_lane-3.ensures.others j h o) (old.fraction_few j h));
      dms_few = with_others _ c.args.k (rw c.put_lane-4.ensures.own (omega (arith, ints, r.dms_high)))
          (λ j h o. rw (c.put_lane-4.ensures.others j h o) (old.dms_few j h));
      dml_few = with_others _ c.args.k (rw c.put_lane-5.ensures.own (omega (arith, ints, r.dml_high)))
          (λ j h o. rw (c.put_lane-5.ensures.others j h o) (old.dml_few j h));
      ap_few = with_others _ c.args.k (rw c.put_lane-6.ensures.own (omega (arith, ints, r.ap_high)))
          (λ j h o. rw (c.put_lane-6.ensures.others j h o) (old.ap_few j h));
      y_low = with_others _ c.args.k (rw c.put_lane-8.ensures.own c.scale.ensures.low)
          (λ j h o. rw (c.put_lane-8.ensures.others j h o) (old.y_low j h));
      y_high = with_others _ c.args.k (rw c.put_lane-8.ensures.own c.scale.ensures.high)
          (λ j h o. rw (c.put_lane-8.ensures.others j h o) (old.y_high j h));
      y_is = with_others _ c.args.k
          (rw (
            c.put_lane.ensures.own,
            c.put_lane-2.ensures.own,
            c.put_lane-3.ensures.own,
            c.put_lane-6.ensures.own,
            c.put_lane-8.ensures.own,
            yl,
          ) (scale_is n.yu n.yl n.ap c.scale.result (omega (arith, ints, r.yu_low)) (omega (arith, ints, r.yu_high))
          (omega (arith, ints, r.yl_low)) (omega (arith, ints, r.yl_high)) y))
          (λ j h o. rw (
            c.put_lane.ensures.others j h o,
            c.put_lane-2.ensures.others j h o,
            c.put_lane-3.ensures.others j h o,
            c.put_lane-6.ensures.others j h o,
            c.put_lane-8.ensures.others j h o,
          ) (old.y_is j h));
    }

-- a flag as a number is set if it is true
flag : (b : Bool) → is_set (from_bool b) ≡ b
flag true = refl
flag false = refl

-- what the lanes are then
abbrev new : After-put_lane-8 → Inside
new c = record {
  yu = c.put_lane.new.numbers;
  whole = c.put_lane-2.new.numbers;
  fraction = c.put_lane-3.new.numbers;
  dms = c.put_lane-4.new.numbers;
  dml = c.put_lane-5.new.numbers;
  ap = c.put_lane-6.new.numbers;
  td = c.put_lane-7.new.numbers;
  y = c.put_lane-8.new.numbers;
}

pub returns-clause-loaded : goal.returns-clause-loaded
returns-clause-loaded c =
    let n = c.numbers-numbers.result in
    let yl : 64 * (n.yl / 64) + n.yl % 64 ≡ n.yl = omega arith in
    is_in_lane (new (goal.at.returns-clause-loaded c).After-put_lane-8) refl c.args.k c.requires
    ∙ rw (
      c.put_lane.ensures.own,
      c.put_lane-2.ensures.own,
      c.put_lane-3.ensures.own,
      c.put_lane-4.ensures.own,
      c.put_lane-5.ensures.own,
      c.put_lane-6.ensures.own,
      c.put_lane-7.ensures.own,
      c.from.ensures,
      yl,
      flag n.td,
    ) c.numbers-numbers.ensures.value

pub returns-clause-others : goal.returns-clause-others
returns-clause-others c = λ j h o.
    is_in_lane (new (goal.at.returns-clause-others c).After-put_lane-8) refl j h
    ∙ rw (
      c.put_lane.ensures.others j h o,
      c.put_lane-2.ensures.others j h o,
      c.put_lane-3.ensures.others j h o,
      c.put_lane-4.ensures.others j h o,
      c.put_lane-5.ensures.others j h o,
      c.put_lane-6.ensures.others j h o,
      c.put_lane-7.ensures.others j h o,
    ) (sym (is_in_lane c.self.inside c.self.view_is j h))
