use Rattle.g726_lanes.proofs.Common.{rules, eight, all_lanes, lane}
use Rattle.g726_lanes.proofs.Each.{each_lane}
use Rattle.g726_lanes.proofs.QuantLanes.{word_by, word_below}
use Rattle.g726_lanes.proofs.quantiser.quan_word.Goals as goal

pub returns : goal.returns
returns g c =
    let few = c.all_ones.ensures.bits in
    rw (eight 0 c.args.counts (search rules), eight 0 c.args.negative (search rules))
    (record {
      value = each_lane _ (all_lanes (λ i h. word_by g.R.Rate.tables.bits (lane c.args.counts i) (lane
          c.args.negative i) c.all_ones.result c.sent_inverted-none.result c.all_ones.ensures.value
          c.sent_inverted-none.ensures few.0 few.1 (c.requires i h)));
      bound = each_lane _ (all_lanes (λ i h. word_below g.R.Rate.tables.bits (lane c.args.counts i) (lane
          c.args.negative i) c.all_ones.result c.sent_inverted-none.result c.all_ones.ensures.value
          c.sent_inverted-none.ensures few.0 few.1 (c.requires i h)));
    })
