use Rattle.g726_lanes.proofs.Common.{rules, eight, all_lanes, lane}
use Rattle.g726_lanes.proofs.Each.{each_lane}
use Rattle.g726_lanes.proofs.FilterLanes.{cleared_is}
use Rattle.g726_lanes.proofs.filter.trigb.Goals as goal

pub returns : goal.returns
returns c =
    rw (eight 0 c.args.tr (search rules), eight 0 c.args.numbers (search rules))
    (each_lane _ (all_lanes (λ i h. cleared_is (lane c.args.tr i) (lane c.args.numbers i))))
