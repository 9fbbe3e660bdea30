use Rattle.g726_lanes.proofs.Common.{◌≡◌, ◌<◌, ◌%◌, ℕ, ℤ, Bool, ap, ◌∙◌, arith, unsigned_abs, is_negative, int_le}
use Rattle.g726_lanes.proofs.Common.{rules, quan_word, subtb, log, few_bits, thresholds_count, few_magnitudes, lane}
use Rattle.g726_lanes.proofs.Common.{number}
use Rattle.std.proofs.lemmas.List.Sums.{count_by-le-length}
use Rattle.g726_quant.specs.Blocks.{quantised, quan_magnitude}
use Rattle.g726_lanes.proofs.QuantLanes.{thresholds_within}
use Rattle.g726_lanes.proofs.quantiser.quantise.Goals as goal

pub quan_magnitude-requires-clause-count : goal.quan_magnitude-requires-clause-count
quan_magnitude-requires-clause-count g c = search (rules, few_magnitudes, few_bits, thresholds_count)

pub quan_magnitude-requires-clause-low : goal.quan_magnitude-requires-clause-low
quan_magnitude-requires-clause-low g c =
    rw c.thresholds.ensures (λ i h. (thresholds_within g.R.Rate.tables g.met.R.Rate.laws.ranges i h).0)

pub quan_magnitude-requires-clause-high : goal.quan_magnitude-requires-clause-high
quan_magnitude-requires-clause-high g c =
    rw c.thresholds.ensures (λ i h. (thresholds_within g.R.Rate.tables g.met.R.Rate.laws.ranges i h).1)

pub returns-clause-value : goal.returns-clause-value
unfolding quantised
returns-clause-value g c =
    let r = g.R.Rate.tables in
    let counts = rw c.thresholds.ensures at c.quan_magnitude.ensures in
    let whole : (n : ℕ) → n < 32768 → n % 32768 ≡ n = λ n h. omega arith in
    λ k h.
    let d = number c.args.d k in
    let part : lane c.parts_of.result.1 k ≡ unsigned_abs d =
    c.parts_of.ensures.magnitudes k h ∙ whole (unsigned_abs d) (c.requires.differences k h) in
    let dl : lane c.log.result k ≡ log (unsigned_abs d) = c.log.ensures.value k h ∙ ap log part in
    let dln : subtb (lane c.log.result k) (lane c.args.y k) ≡ subtb (log (unsigned_abs d)) (lane c.args.y k) =
    ap (λ (n : ℕ). subtb n (lane c.args.y k)) dl in
    c.quan_word.ensures.value k h
    ∙ (ap (λ (b : Bool). quan_word r.bits b (lane c.quan_magnitude.result k)) (c.parts_of.ensures.signs k h)
    ∙ ap (λ (n : ℕ). quan_word r.bits (is_negative d) n)
    (counts k h (subtb (lane c.log.result k) (lane c.args.y k)) (c.subtb-dln.ensures k h)
    ∙ ap (λ (z : ℤ). quan_magnitude r.thresholds z) dln))

pub quan_word-requires : goal.quan_word-requires
quan_word-requires g c =
    let r = g.R.Rate.tables in
    let counts = rw c.thresholds.ensures at c.quan_magnitude.ensures in
    λ k h.
    let z = subtb (lane c.log.result k) (lane c.args.y k) in
    let is = counts k h z (c.subtb-dln.ensures k h) in
    omega (arith, is, count_by-le-length (λ t. int_le t z) r.thresholds, thresholds_count r g.met.R.Rate.laws.places)
