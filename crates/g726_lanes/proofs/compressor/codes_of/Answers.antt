use Rattle.g726_lanes.proofs.Common.{lane, number}
use Rattle.g726_lanes.proofs.SegmentLanes.{coded_is}
use Rattle.g726_lanes.proofs.compressor.codes_of.Goals as goal

pub returns : goal.returns
returns c = λ k h.
    coded_is c.args.law (number c.args.signals k) (lane c.parts_of.result.0 k)
    (lane c.parts_of.result.1 k) (lane c.numbers_for.result k) (lane c.codes_with.result k)
    (c.parts_of.ensures.signs k h) (c.parts_of.ensures.magnitudes k h)
    (c.numbers_for.ensures.bound k h) (c.numbers_for.ensures.interval k h) (c.codes_with.ensures k h)
