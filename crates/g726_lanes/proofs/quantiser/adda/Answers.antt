use Rattle.g726_lanes.proofs.Common.{rules, ◌<◌, ℕ, eight, all_lanes, lane}
use Rattle.g726_lanes.proofs.Each.{each_lane}
use Rattle.g726_lanes.proofs.QuantLanes.{added_is}
use Rattle.g726_lanes.proofs.quantiser.adda.Goals as goal

pub returns : goal.returns
returns c =
    let at = λ (i : ℕ) (h : i < 8). added_is (lane c.args.levels i) (lane c.args.y i) (search rules)
    (c.requires.low i h) (c.requires.high i h) (c.requires.y_low i h) (c.requires.y_high i h) in
    rw (eight 0 c.args.levels (search rules), eight 0 c.args.y (search rules))
    (record {
      value = each_lane _ (all_lanes (λ i h. (at i h).0));
      fits = each_lane _ (all_lanes (λ i h. (at i h).1.0));
      whole = each_lane _ (all_lanes (λ i h. (at i h).1.1));
    })
