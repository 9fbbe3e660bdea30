use Rattle.g726_lanes.proofs.Common.{ℤ, ap, ◌∙◌, int_shr, sez, se, all_lanes}
use Rattle.g726_lanes.proofs.Each.{each_lane}
use Rattle.g726_lanes.proofs.PredictionUpdates.{six, two_more, none}
use Rattle.g726_lanes.proofs.predictions.Predictions.estimates.Goals as goal

pub returns-clause-zeros : goal.returns-clause-zeros
unfolding sez
returns-clause-zeros c =
    rw (← c.self.view_is) (each_lane _ (all_lanes (λ i h. c.halved.ensures i h ∙ ap (λ (v : ℤ). int_shr v 1)
    (six _ _ _ _ _ _ (none i h) (c.accumulate-b1.ensures i h) (c.accumulate-b2.ensures i h)
    (c.accumulate-b3.ensures i h) (c.accumulate-b4.ensures i h) (c.accumulate-b5.ensures i h)
    (c.accumulate-zeros.ensures i h)))))

pub returns-clause-all : goal.returns-clause-all
unfolding se
returns-clause-all c =
    rw (← c.self.view_is) (each_lane _ (all_lanes (λ i h. c.halved-2.ensures i h ∙ ap (λ (v : ℤ). int_shr v 1)
    (two_more _ _ _ (six _ _ _ _ _ _ (none i h) (c.accumulate-b1.ensures i h) (c.accumulate-b2.ensures i h)
    (c.accumulate-b3.ensures i h) (c.accumulate-b4.ensures i h) (c.accumulate-b5.ensures i h)
    (c.accumulate-zeros.ensures i h)) (c.accumulate-a1.ensures i h) (c.accumulate-all.ensures i h)))))
