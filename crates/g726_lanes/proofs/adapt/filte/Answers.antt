use Rattle.g726_lanes.proofs.Common.{rules, ◌<◌, ℕ, eight, all_lanes, lane}
use Rattle.g726_lanes.proofs.Each.{each_lane}
use Rattle.g726_lanes.proofs.AdaptLanes.{slow_is}
use Rattle.g726_lanes.proofs.adapt.filte.Goals as goal

pub returns : goal.returns
returns c =
    let at = λ (i : ℕ) (h : i < 8). slow_is (lane c.args.yu i) (lane c.args.whole i) (lane c.args.fraction i)
    (c.requires.yu_low i h) (c.requires.yu_high i h) (c.requires.low i h) (c.requires.high i h)
    (c.requires.fraction i h) in
    rw (eight 0 c.args.yu (search rules), eight 0 c.args.whole (search rules), eight 0 c.args.fraction (search rules))
    (record {
      value = each_lane _ (all_lanes (λ i h. (at i h).value));
      low = each_lane _ (all_lanes (λ i h. (at i h).low));
      high = each_lane _ (all_lanes (λ i h. (at i h).high));
      whole_high = each_lane _ (all_lanes (λ i h. (at i h).whole_high));
      fraction = each_lane _ (all_lanes (λ i h. (at i h).few));
    })
