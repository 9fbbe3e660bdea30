use Rattle.g726_lanes.proofs.Common.{rules, eight, all_lanes, lane}
use Rattle.g726_lanes.proofs.Each.{each_lane}
use Rattle.g726_lanes.proofs.AdaptLanes.{passes_is}
use Rattle.g726_lanes.proofs.adapt.trans.Goals as goal

pub returns : goal.returns
returns c =
    rw (
      eight 0 c.args.td (search rules),
      eight 0 c.args.thresholds (search rules),
      eight 0 c.args.magnitudes (search rules),
    )
    (each_lane _ (all_lanes (λ i h. passes_is (lane c.args.td i) (lane c.args.thresholds i) (lane
    c.args.magnitudes i))))
