use Rattle.g726_lanes.proofs.Common.{rules, ◌<◌, ℕ, eight, all_lanes, lane}
use Rattle.g726_lanes.proofs.Each.{each_lane}
use Rattle.g726_lanes.proofs.Numbers.{difference_is}
use Rattle.g726_lanes.proofs.encoding.subta.Goals as goal

pub returns : goal.returns
returns c =
    let at = λ (i : ℕ) (h : i < 8). difference_is (lane c.args.samples i) (lane c.args.estimates i) (search
    rules) (search rules) (c.requires.low i h) (c.requires.high i h) (c.requires.estimates_low i h)
    (c.requires.estimates_high i h) in
    rw (eight 0 c.args.samples (search rules), eight 0 c.args.estimates (search rules))
    (record {
      value = each_lane _ (all_lanes (λ i h. (at i h).0));
      bound = each_lane _ (all_lanes (λ i h. (at i h).1));
    })
