use Rattle.g726_lanes.proofs.Common.{rules, eight, all_lanes, lane}
use Rattle.g726_lanes.proofs.Each.{each_lane}
use Rattle.g726_lanes.proofs.FilterLanes.{tone_is}
use Rattle.g726_lanes.proofs.filter.tones.Goals as goal

pub returns : goal.returns
returns c =
    rw (eight 0 c.args.a2 (search rules))
    (each_lane _ (all_lanes (λ i h. tone_is (lane c.args.a2 i) (search rules))))
