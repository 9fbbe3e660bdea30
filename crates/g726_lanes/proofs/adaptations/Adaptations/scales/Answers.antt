use Rattle.g726_lanes.proofs.Common.{ap, unsigned_abs}
use Rattle.g726_lanes.proofs.AdaptationUpdates.{is_in_lane}
use Rattle.g726_lanes.proofs.adaptations.Adaptations.scales.Goals as goal

pub returns-clause-value : goal.returns-clause-value
returns-clause-value c = λ i h.
    rw (is_in_lane c.self.inside c.self.view_is i h) (ap unsigned_abs (c.self.invariant.y_is i h))
