use Rattle.g726_lanes.proofs.Common.{rules, eight, all_lanes, lane}
use Rattle.g726_lanes.proofs.Each.{each_lane}
use Rattle.g726_lanes.proofs.FilterLanes.{half_is}
use Rattle.g726_lanes.proofs.filter.halved.Goals as goal

pub returns : goal.returns
returns c =
    rw (eight 0 c.args.sums (search rules)) (each_lane _ (all_lanes (λ i h. half_is (lane c.args.sums i) (search
    rules))))
