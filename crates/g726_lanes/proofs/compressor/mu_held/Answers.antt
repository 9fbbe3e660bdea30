use Rattle.g726_lanes.proofs.Common.{rules, eight, all_lanes, lane}
use Rattle.g726_lanes.proofs.Each.{each_lane}
use Rattle.g726_lanes.proofs.SegmentLanes.{mu_held_is}
use Rattle.g726_lanes.proofs.compressor.mu_held.Goals as goal

pub returns : goal.returns
returns c =
    rw (eight 0 c.args.magnitudes (search rules))
    (each_lane _ (all_lanes (λ i h. mu_held_is (lane c.args.magnitudes i))))
