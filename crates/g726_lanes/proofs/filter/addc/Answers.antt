use Rattle.g726_lanes.proofs.Common.{rules, eight, all_lanes, lane}
use Rattle.g726_lanes.proofs.Each.{each_lane}
use Rattle.g726_lanes.proofs.FilterLanes.{p_is}
use Rattle.g726_lanes.proofs.filter.addc.Goals as goal

pub returns : goal.returns
returns c =
    rw (
      eight 0 c.args.negative (search rules),
      eight 0 c.args.magnitudes (search rules),
      eight 0 c.args.zeros (search rules),
    )
    (each_lane _ (all_lanes (λ i h. p_is (lane c.args.negative i) (lane c.args.magnitudes i) (lane c.args.zeros
    i) (c.requires i h) (search rules))))
