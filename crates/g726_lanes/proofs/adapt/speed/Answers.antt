use Rattle.g726_lanes.proofs.Common.{rules, ◌<◌, ℕ, eight, all_lanes, lane}
use Rattle.g726_lanes.proofs.Each.{each_lane}
use Rattle.g726_lanes.proofs.AdaptLanes.{speed_is}
use Rattle.g726_lanes.proofs.adapt.speed.Goals as goal

pub returns : goal.returns
returns c =
    let at = λ (i : ℕ) (h : i < 8). speed_is (lane c.args.ax i) (lane c.args.tr i) (lane c.args.ap i)
    (c.requires i h) in
    rw (eight 0 c.args.ax (search rules), eight 0 c.args.tr (search rules), eight 0 c.args.ap (search rules))
    (record {
      value = each_lane _ (all_lanes (λ i h. (at i h).0));
      bound = each_lane _ (all_lanes (λ i h. (at i h).1));
    })
