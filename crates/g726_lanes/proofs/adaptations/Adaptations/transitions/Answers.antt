use Rattle.g726_lanes.proofs.Common.{◌≡◌, ◌+◌, ◌*◌, ◌/◌, arith, refl, lane}
use Rattle.g726_lanes.proofs.AdaptationUpdates.{is_in_lane}
use Rattle.g726_lanes.proofs.adaptations.Adaptations.transitions.Goals as goal

pub returns : goal.returns
returns c = λ i h.
    let s = c.self.inside in
    let yl = 64 * lane s.whole i + lane s.fraction i in
    let whole : yl / 64 ≡ lane s.whole i = omega (arith, c.self.invariant.fraction_few i h) in
    rw (c.trans.ensures i h, c.dqthr.ensures i h yl whole, is_in_lane s c.self.view_is i h) refl
