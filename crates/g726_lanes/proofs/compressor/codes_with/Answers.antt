use Rattle.g726_lanes.proofs.Common.{rules, ◌<◌, ℕ, eight, all_lanes, lane}
use Rattle.g726_lanes.proofs.Each.{each_lane}
use Rattle.g726_lanes.proofs.SegmentLanes.{code_is}
use Rattle.g726_lanes.proofs.compressor.codes_with.Goals as goal

pub overflow_cast-result : goal.overflow_cast-result
overflow_cast-result c =
    let at = λ (i : ℕ) (h : i < 8). code_is c.args.law (lane c.args.negative i) (lane c.args.numbers i)
    c.at_zero.result (c.requires.signs i h) (c.requires.numbers i h) c.at_zero.ensures in
    rw (eight 0 c.args.negative (search rules), eight 0 c.args.numbers (search rules))
    (all_lanes (λ i h. (at i h).0))

pub returns : goal.returns
returns c =
    let at = λ (i : ℕ) (h : i < 8). code_is c.args.law (lane c.args.negative i) (lane c.args.numbers i)
    c.at_zero.result (c.requires.signs i h) (c.requires.numbers i h) c.at_zero.ensures in
    rw (eight 0 c.args.negative (search rules), eight 0 c.args.numbers (search rules))
    (each_lane _ (all_lanes (λ i h. (at i h).1)))
