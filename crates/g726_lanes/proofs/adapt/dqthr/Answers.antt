use Rattle.g726_lanes.proofs.Common.{rules, ◌<◌, ℕ, ◌/◌, ◌≤◌, arith, eight, all_lanes, lane}
use Rattle.g726_lanes.proofs.Each.{each_lane}
use Rattle.g726_lanes.proofs.AdaptLanes.{threshold_is}
use Rattle.g726_lanes.proofs.adapt.dqthr.Goals as goal

few : (n : ℕ) → n ≤ 5120 → n / 512 < 16
few n h = omega arith

pub overflow_shl-shifted : goal.overflow_shl-shifted
overflow_shl-shifted c =
    rw (eight 0 c.args.whole (search rules)) (all_lanes (λ i h. few (lane c.args.whole i) (c.requires i h)))

pub returns : goal.returns
returns c =
    rw (eight 0 c.args.whole (search rules))
    (each_lane _ (all_lanes (λ i h. threshold_is (lane c.args.whole i) (c.requires i h))))
