use Rattle.g726_lanes.proofs.Common.{rules, ◌<◌, ℕ, eight, all_lanes, lane}
use Rattle.g726_lanes.proofs.Each.{each_lane}
use Rattle.g726_lanes.proofs.AdaptLanes.{long_is}
use Rattle.g726_lanes.proofs.adapt.filtb.Goals as goal

pub returns : goal.returns
returns c =
    let at = λ (i : ℕ) (h : i < 8). long_is (lane c.args.fi i) (lane c.args.dml i) (c.requires.fi i h)
    (c.requires.dml i h) in
    rw (eight 0 c.args.dml (search rules), eight 0 c.args.fi (search rules))
    (record {
      value = each_lane _ (all_lanes (λ i h. (at i h).0));
      bound = each_lane _ (all_lanes (λ i h. (at i h).1));
    })
