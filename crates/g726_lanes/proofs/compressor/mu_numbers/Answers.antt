use Rattle.g726_lanes.proofs.Common.{rules, ◌<◌, ℕ, eight, all_lanes, lane}
use Rattle.g726_lanes.proofs.Each.{each_lane}
use Rattle.g726_lanes.proofs.SegmentLanes.{mu_number_is}
use Rattle.g726_lanes.proofs.compressor.mu_numbers.Goals as goal

pub returns : goal.returns
returns c =
    let at = λ (i : ℕ) (h : i < 8). mu_number_is (lane c.args.held i) (lane c.args.logs i) (c.requires.low i h)
    (c.requires.high i h) (c.requires.logs i h) in
    rw (eight 0 c.args.held (search rules), eight 0 c.args.logs (search rules)) (record {
      bound = each_lane _ (all_lanes (λ i h. (at i h).bound));
      lower = each_lane _ (all_lanes (λ i h. (at i h).lower));
      upper = each_lane _ (all_lanes (λ i h. (at i h).upper));
    })
