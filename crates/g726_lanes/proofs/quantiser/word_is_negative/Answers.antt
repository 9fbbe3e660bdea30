use Rattle.g726_lanes.proofs.Common.{rules, ◌≡◌, ◌<◌, ℕ, arith, eight, all_lanes, few_bits, lane}
use Rattle.g726_lanes.proofs.Each.{each_lane}
use Rattle.g726_lanes.proofs.QuantLanes.{sign_is}
use Rattle.g726_lanes.proofs.quantiser.word_is_negative.Goals as goal

pub returns : goal.returns
returns g c =
    let laws = g.met.R.Rate.laws in
    let few = few_bits g.R.Rate.tables laws.places in
    let bits : c.BITS.result ≡ g.R.Rate.tables.bits = omega (arith, c.BITS.ensures, laws.bits) in
    let at = λ (i : ℕ) (h : i < 8). sign_is g.R.Rate.tables.bits (lane c.args.words i) few.low few.high
    (c.requires i h) in
    rw (bits, eight 0 c.args.words (search rules))
    (record {
      value = each_lane _ (all_lanes (λ i h. (at i h).0));
      bound = each_lane _ (all_lanes (λ i h. (at i h).1));
    })
