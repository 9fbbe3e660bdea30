use Rattle.g726_lanes.proofs.Common.{rules, eight, all_lanes, lane}
use Rattle.g726_lanes.proofs.Each.{each_lane}
use Rattle.g726_lanes.proofs.PoleLanes.{a1_is}
use Rattle.g726_lanes.proofs.poles.update_a1.Goals as goal

pub returns : goal.returns
returns c =
    rw (
      eight 0 c.args.a1 (search rules),
      eight 0 c.args.new_a2 (search rules),
      eight 0 c.args.p (search rules),
      eight 0 c.args.p1 (search rules),
    )
    (each_lane _ (all_lanes (λ i h. a1_is (lane c.args.a1 i) (lane c.args.new_a2 i) (lane c.args.p i)
    (lane c.args.p1 i) (search rules) (search rules) (search rules) (search rules) (c.requires.low i h)
    (c.requires.high i h))))
