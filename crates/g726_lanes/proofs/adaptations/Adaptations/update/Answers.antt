use Rattle.g726_lanes.proofs.Common.{all_lanes, lane, is_set}
use Rattle.g726_lanes.proofs.Each.{each_lane}
use Rattle.g726_lanes.proofs.AdaptationUpdates.{moved, is_in_lane}
use Rattle.g726_lanes.proofs.adaptations.Adaptations.update.Goals as goal

pub returns : goal.returns
returns g c =
    each_lane _ (all_lanes (λ i h. moved g.R.Rate.tables (lane c.args.places i) (is_set (lane c.args.tone i))
    (is_set (lane c.args.tr i)) (is_in_lane c.self.inside c.self.view_is i h) (c.self.invariant.y_is i h)
    (c.functw.ensures.value i h) (c.functf-fi.ensures.value i h) (c.fast_scale-yu.ensures.value i h)
    (c.filte.ensures.value i h) (c.filta-dms.ensures.value i h) (c.filtb-dml.ensures.value i h)
    (c.subtc.ensures i h) (c.speed-ap.ensures.value i h) (c.cleared.ensures i h)))
