use Rattle.g726_lanes.proofs.Common.{negsuc, ◌≡◌, ◌<◌, ℕ, ℤ, ap, ◌∙◌, refl, int_lt, float_of, unpacked, all_lanes, lane}
use Rattle.g726_lanes.proofs.Common.{number, is_set}
use Rattle.g726_lanes.proofs.Each.{each_lane}
use Rattle.g726_lanes.proofs.PredictionUpdates.{moved, toned, is_in_lane}
use Rattle.g726_lanes.proofs.predictions.Predictions.update.Goals as goal

pub returns-clause-state : goal.returns-clause-state
returns-clause-state g c =
    let heard : (i : ℕ) → i < 8 → unpacked (lane c.float_words-self-inside-2.result i) ≡ float_of (number c.args.sr i) =
    λ i h. rw (
      c.float_words-self-inside-2.ensures.value i h,
      c.parts_of.ensures.signs i h,
      c.parts_of.ensures.magnitudes i h,
    ) refl in
    each_lane _ (all_lanes (λ i h. moved g.R.Rate.tables.leak (is_set (lane c.args.negative i))
    (lane c.args.magnitudes i) (number c.args.sr i) (is_set (lane c.args.tr i))
    (is_in_lane c.self.inside c.self.view_is i h) (c.requires.zeros i h) (c.addc-p.ensures i h)
    (c.update_a2-a2.ensures.value i h) (c.update_a1-a1.ensures i h) (c.trigb-self-inside.ensures i h)
    (c.trigb-self-inside-2.ensures i h) (c.update_b-self-inside.ensures i h) (c.update_b-self-inside-2.ensures i h)
    (c.update_b-self-inside-3.ensures i h) (c.update_b-self-inside-4.ensures i h)
    (c.update_b-self-inside-5.ensures i h) (c.update_b-self-inside-6.ensures i h)
    (c.float_words-self-inside.ensures.value i h) (heard i h)))

pub returns-clause-tone : goal.returns-clause-tone
returns-clause-tone g c = λ i h.
    c.tones.ensures i h
    ∙ ap (λ (v : ℤ). int_lt v (negsuc 11775)) (toned (is_set (lane c.args.negative i)) (lane c.args.magnitudes i)
    (is_in_lane c.self.inside c.self.view_is i h) (c.requires.zeros i h) (c.addc-p.ensures i h)
    (c.update_a2-a2.ensures.value i h))
