use Rattle.g726_lanes.proofs.Common.{rules, ◌<◌, ℕ, eight, all_lanes, lane}
use Rattle.g726_lanes.proofs.Each.{each_lane}
use Rattle.g726_lanes.proofs.AdaptLanes.{fast_is}
use Rattle.g726_lanes.proofs.adapt.fast_scale.Goals as goal

pub returns : goal.returns
returns c =
    let at = λ (i : ℕ) (h : i < 8). fast_is (lane c.args.wi i) (lane c.args.y i) (search rules)
    (c.requires.wi_low i h) (c.requires.wi_high i h) (c.requires.y_low i h) (c.requires.y_high i h) in
    rw (eight 0 c.args.wi (search rules), eight 0 c.args.y (search rules))
    (record {
      value = each_lane _ (all_lanes (λ i h. (at i h).0));
      low = each_lane _ (all_lanes (λ i h. (at i h).1.0));
      high = each_lane _ (all_lanes (λ i h. (at i h).1.1));
    })
