use Rattle.g726_lanes.proofs.Common.{rules, ◌<◌, ℕ, eight, all_lanes, lane}
use Rattle.g726_lanes.proofs.Each.{each_lane}
use Rattle.g726_lanes.proofs.PoleLanes.{a2_is, a2_within}
use Rattle.g726_lanes.proofs.poles.update_a2.Goals as goal

pub returns : goal.returns
returns c =
    let at1 = λ (i : ℕ) (h : i < 8). a2_within (lane c.args.a1 i) (lane c.args.a2 i) (lane c.args.p i) (lane
    c.args.p1 i) (lane c.args.p2 i) (search rules) (search rules) (search rules) (search rules) (search rules)
    in
    rw (
      eight 0 c.args.a1 (search rules),
      eight 0 c.args.a2 (search rules),
      eight 0 c.args.p (search rules),
      eight 0 c.args.p1 (search rules),
      eight 0 c.args.p2 (search rules),
    )
    (record {
      value = each_lane _ (all_lanes (λ i h. a2_is (lane c.args.a1 i) (lane c.args.a2 i) (lane c.args.p i) (lane
          c.args.p1 i) (lane c.args.p2 i) (search rules) (search rules) (search rules) (search rules) (search
          rules)));
      low = each_lane _ (all_lanes (λ i h. (at1 i h).0));
      high = each_lane _ (all_lanes (λ i h. (at1 i h).1));
    })
