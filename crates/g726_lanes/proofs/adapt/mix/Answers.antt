use Rattle.g726_lanes.proofs.Common.{rules, ◌<◌, ℕ, ◌*◌, ◌/◌, ◌%◌, arith, Fits, w16, ◌+◌, ◌-◌, eight, all_lanes, lane}
use Rattle.g726_lanes.proofs.Common.{least, at_least}
use Rattle.g726_lanes.proofs.Each.{each_lane}
use Rattle.g726_lanes.proofs.AdaptLanes.{y_is, y_within}
use Rattle.g726_lanes.proofs.adapt.mix.Goals as goal

few : (m : ℕ) → Fits w16 (m % 4294967296 / 65536)
few m = record { fits = omega arith }

pub overflow_cast-part : goal.overflow_cast-part
overflow_cast-part c =
    rw (eight 0 c.args.yu (search rules), eight 0 c.args.whole (search rules), eight 0 c.args.ap (search rules))
    (all_lanes (λ i h. few (((at_least (lane c.args.whole i) (lane c.args.yu i)
    + (65536 - least (lane c.args.yu i) (lane c.args.whole i))) % 65536) * 8 % 65536
    * (least (lane c.args.ap i / 4) 64 * 128 % 65536))))

pub returns : goal.returns
returns c =
    let at = λ (i : ℕ) (h : i < 8). y_within (lane c.args.yu i) (lane c.args.whole i) (lane c.args.ap i)
    (c.requires.yu_low i h) (c.requires.yu_high i h) (c.requires.low i h) (c.requires.high i h) in
    rw (eight 0 c.args.yu (search rules), eight 0 c.args.whole (search rules), eight 0 c.args.ap (search rules))
    (record {
      value = each_lane _ (all_lanes (λ i h. y_is (lane c.args.yu i) (lane c.args.whole i) (lane c.args.ap i)
          (c.requires.yu_low i h) (c.requires.yu_high i h) (c.requires.low i h) (c.requires.high i h)));
      low = each_lane _ (all_lanes (λ i h. (at i h).0));
      high = each_lane _ (all_lanes (λ i h. (at i h).1));
    })
