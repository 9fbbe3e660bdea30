use Rattle.g726_lanes.proofs.Common.{rules, eight, all_lanes, lane}
use Rattle.g726_lanes.proofs.Each.{each_lane}
use Rattle.g726_lanes.proofs.QuantLanes.{less_is}
use Rattle.g726_lanes.proofs.quantiser.subtb.Goals as goal

pub returns : goal.returns
returns c =
    rw (eight 0 c.args.dl (search rules), eight 0 c.args.y (search rules))
    (each_lane _ (all_lanes (λ i h. less_is (lane c.args.dl i) (lane c.args.y i) (c.requires.dl i h)
    (c.requires.y i h))))
