use Rattle.g726_lanes.proofs.Common.{all_lanes, lane}
use Rattle.g726_lanes.proofs.Each.{each_lane}
use Rattle.g726_lanes.proofs.Steps.{magnitude_is, signal_is, stepped_is, is_in_lane}
use Rattle.g726_lanes.proofs.lanes.Lanes.step.Goals as goal

pub returns-clause-signals : goal.returns-clause-signals
returns-clause-signals g c = λ i h.
    let s = c.self.inside in
    let r = g.R.Rate.tables in
    let magnitude = magnitude_is r (lane c.args.words i) (lane c.scales.result i)
    (c.word_magnitude-places.ensures.value i h) (c.reconst.ensures.value i h) (c.adda.ensures.value i h)
    (c.antilog-dq.ensures.value i h) in
    signal_is r (lane c.args.words i) (is_in_lane s.adaptations s.predictions c.self.view_is i h)
    (c.word_is_negative-negative.ensures.value i h) (c.scales.ensures.value i h) magnitude
    (c.self.invariant.all_are i h) (c.addc-sr.ensures i h)

pub returns-clause-state : goal.returns-clause-state
returns-clause-state g c =
    let s = c.self.inside in
    let r = g.R.Rate.tables in
    each_lane _ (all_lanes (λ i h.
    let magnitude = magnitude_is r (lane c.args.words i) (lane c.scales.result i)
    (c.word_magnitude-places.ensures.value i h) (c.reconst.ensures.value i h) (c.adda.ensures.value i h)
    (c.antilog-dq.ensures.value i h) in
    stepped_is r (lane c.args.words i) (is_in_lane s.adaptations s.predictions c.self.view_is i h)
    (c.word_magnitude-places.ensures.value i h) (c.word_is_negative-negative.ensures.value i h)
    (c.scales.ensures.value i h) magnitude (returns-clause-signals g c i h) (c.transitions-tr.ensures i h)
    (c.update-tone.ensures.tone i h) (c.update.ensures i h) (c.update-tone.ensures.state i h)))
