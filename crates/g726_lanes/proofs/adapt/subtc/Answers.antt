use Rattle.g726_lanes.proofs.Common.{rules, eight, all_lanes, lane}
use Rattle.g726_lanes.proofs.Each.{each_lane}
use Rattle.g726_lanes.proofs.AdaptLanes.{rises_is}
use Rattle.g726_lanes.proofs.adapt.subtc.Goals as goal

pub returns : goal.returns
returns c =
    rw (
      eight 0 c.args.y (search rules),
      eight 0 c.args.dms (search rules),
      eight 0 c.args.dml (search rules),
      eight 0 c.args.tone (search rules),
    )
    (each_lane _ (all_lanes (λ i h. rises_is (lane c.args.y i) (lane c.args.dms i) (lane c.args.dml i) (lane
    c.args.tone i) (c.requires.dms i h) (c.requires.dml i h))))
