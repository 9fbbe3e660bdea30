use Rattle.g726_lanes.proofs.Common.{rules, SFits, w16, to_z-of_z}
use Rattle.g726_lanes.proofs.Steps.{made_same, is_in_lane}
use Rattle.g726_lanes.proofs.lanes.Lanes.store.Goals as goal

pub of_filter-predictor-requires-clause-zeros : goal.of_filter-predictor-requires-clause-zeros
of_filter-predictor-requires-clause-zeros c =
    let fits : SFits w16 c.cast_signed-zeros.result = search rules in
    rw (to_z-of_z w16 c.cast_signed-zeros.result fits, c.cast_signed-zeros.ensures, c.lane.ensures, c.store.ensures)
    (c.self.invariant.zeros_are c.args.k c.requires)

pub returns : goal.returns
returns c = search (rules, made_same, is_in_lane)
