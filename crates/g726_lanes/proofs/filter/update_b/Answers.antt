use Rattle.g726_lanes.proofs.Common.{rules, eight, all_lanes, lane}
use Rattle.g726_lanes.proofs.Each.{each_lane}
use Rattle.g726_lanes.proofs.FilterLanes.{b_is}
use Rattle.g726_lanes.proofs.filter.update_b.Goals as goal

pub returns : goal.returns
returns g c =
    rw (
      eight 0 c.args.b (search rules),
      eight 0 c.args.words (search rules),
      eight 0 c.args.magnitudes (search rules),
      eight 0 c.args.negative (search rules),
      eight 0 c.args.tr (search rules),
    )
    (rw (← c.leak-shift.ensures.value) (each_lane _ (all_lanes (λ i h. b_is c.leak-shift.result (lane c.args.b i)
    (lane c.args.words i) (lane c.args.magnitudes i) (lane c.args.negative i) (lane c.args.tr i)
    c.leak-shift.ensures.low c.leak-shift.ensures.high (search rules) (c.requires.words i h) (c.requires.signs i
    h)))))
