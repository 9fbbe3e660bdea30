use Rattle.g726_lanes.proofs.Common.{places, ranges, few_bits, few_magnitudes, rules}
use Rattle.g726_lanes.proofs.quantiser.functw.Goals as goal

pub entries-requires-clause-few : goal.entries-requires-clause-few
entries-requires-clause-few g c = search (rules, places, few_magnitudes, few_bits)

pub returns : goal.returns
returns g c =
    let laws = g.met.R.Rate.laws in
    let is = rw c.multipliers.ensures at c.entries.ensures in
    record {
      value = is;
      low = λ k h. rw (is k h) (ranges g.R.Rate.tables _ laws.places laws.ranges (c.requires k h)).multiplier.low;
      high = λ k h. rw (is k h) (ranges g.R.Rate.tables _ laws.places laws.ranges (c.requires k h)).multiplier.high;
    }
