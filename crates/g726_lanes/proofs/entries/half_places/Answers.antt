use Rattle.g726_lanes.proofs.Common.{rules, and_mask, eight, all_lanes, lane}
use Rattle.g726_lanes.proofs.Each.{each_lane}
use Rattle.g726_lanes.proofs.entries.half_places.Goals as goal

pub returns : goal.returns
returns c =
    rw (eight 0 c.args.places (search rules))
    (each_lane _ (all_lanes (λ i h. and_mask (lane c.args.places i) 3)))
