use Rattle.g726_lanes.proofs.Common.{rules, ◌<◌, ℕ, eight, all_lanes, lane}
use Rattle.g726_lanes.proofs.Each.{each_lane}
use Rattle.g726_lanes.proofs.QuantLanes.{magnitude_by}
use Rattle.g726_lanes.proofs.quantiser.word_magnitude.Goals as goal

pub returns : goal.returns
returns g c =
    let few = c.all_ones.ensures.bits in
    let at = λ (i : ℕ) (h : i < 8). magnitude_by g.R.Rate.tables.bits (lane c.args.words i) c.all_ones.result
    c.all_ones.ensures.value few.0 few.1 (c.requires i h) in
    rw (eight 0 c.args.words (search rules))
    (record {
      value = each_lane _ (all_lanes (λ i h. (at i h).0));
      bound = each_lane _ (all_lanes (λ i h. (at i h).1));
    })
