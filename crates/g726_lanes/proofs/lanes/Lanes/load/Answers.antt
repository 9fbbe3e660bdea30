use Rattle.g726_lanes.proofs.Common.{to_z-of_z, rules, SFits, w16, to_z, ◌≡◌, ap, refl, sym, ◌∙◌, sez, se}
use Rattle.g726_lanes.proofs.Each.{with_others}
use Rattle.g726_lanes.proofs.Steps.{made_same, is_in_lane}
use Rattle.g726_lanes.proofs.lanes.Lanes.load.Goals as goal

pub invariant_of-self : goal.invariant_of-self
invariant_of-self c =
    let estimates = c.estimate-sez.ensures in
    let loaded = c.predictor.ensures in
    let zeros_fit : SFits w16 c.estimate-sez.result.0 = search rules in
    let all_fit : SFits w16 c.estimate-sez.result.1 = search rules in
    let zeros : to_z w16 c.bits_of.result ≡ c.estimate-sez.result.0 = simp to_z-of_z at c.bits_of.ensures in
    let all : to_z w16 c.bits_of-2.result ≡ c.estimate-sez.result.1 = simp to_z-of_z at c.bits_of-2.ensures in
    record {
      zeros_are = with_others _ c.args.k
          (rw (c.put_lane.ensures.own, c.load-2.ensures.loaded, c.predictor-2.ensures)
          (zeros ∙ estimates.zeros ∙ ap sez loaded))
          (λ j h o. rw (c.put_lane.ensures.others j h o, c.load-2.ensures.others j h o)
          (c.self.invariant.zeros_are j h));
      all_are = with_others _ c.args.k
          (rw (c.put_lane-2.ensures.own, c.load-2.ensures.loaded, c.predictor-2.ensures)
          (all ∙ estimates.all ∙ ap se loaded))
          (λ j h o. rw (c.put_lane-2.ensures.others j h o, c.load-2.ensures.others j h o)
          (c.self.invariant.all_are j h));
    }

pub returns-clause-others : goal.returns-clause-others
returns-clause-others c = λ j h o.
    is_in_lane c.load.new.self c.load-2.new.self refl j h
    ∙ made_same (c.load.ensures.others j h o) (c.load-2.ensures.others j h o)
    ∙ sym (is_in_lane c.self.inside.adaptations c.self.inside.predictions c.self.view_is j h)
