use Rattle.g726_lanes.proofs.Common.{rules, ◌<◌, ℕ, eight, all_lanes, lane}
use Rattle.g726_lanes.proofs.Each.{each_lane}
use Rattle.g726_lanes.proofs.FilterLanes.{part_is}
use Rattle.g726_lanes.proofs.filter.parts_of.Goals as goal

pub returns : goal.returns
returns c =
    let at = λ (i : ℕ) (h : i < 8). part_is (lane c.args.signals i) (search rules) in
    rw (eight 0 c.args.signals (search rules))
    (record {
      signs = each_lane _ (all_lanes (λ i h. (at i h).0));
      magnitudes = each_lane _ (all_lanes (λ i h. (at i h).1.0));
      sign_bound = each_lane _ (all_lanes (λ i h. (at i h).1.1.0));
      magnitude_bound = each_lane _ (all_lanes (λ i h. (at i h).1.1.1));
    })
