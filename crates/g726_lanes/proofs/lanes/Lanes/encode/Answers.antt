use Rattle.g726_lanes.proofs.Common.{ℕ, Some, [], ◌∷◌, ap, refl, encoded, after_words, after_octets}
use Rattle.g726_codec.proofs.Histories.{next_words, next_encoder}
use Rattle.g726_lanes.proofs.Steps.{is_in_lane, se_low, se_high}
use Rattle.g726_lanes.proofs.lanes.Lanes.encode.Goals as goal

pub subta-d-requires-clause-estimates_low : goal.subta-d-requires-clause-estimates_low
subta-d-requires-clause-estimates_low g c = λ k h. rw (c.self.invariant.all_are k h) (se_low _)

pub subta-d-requires-clause-estimates_high : goal.subta-d-requires-clause-estimates_high
subta-d-requires-clause-estimates_high g c = λ k h. rw (c.self.invariant.all_are k h) (se_high _)

pub returns-clause-words : goal.returns-clause-words
returns-clause-words g c = λ i h.
    let s = c.self.inside in
    rw (
      c.quantise-words.ensures.value i h,
      c.scales.ensures.value i h,
      c.subta-d.ensures.value i h,
      c.samples_of.ensures.value i h,
      c.self.invariant.all_are i h,
      is_in_lane s.adaptations s.predictions c.self.view_is i h,
    ) refl

pub returns-clause-history : goal.returns-clause-history
unfolding encoded after_octets after_words
returns-clause-history g c = λ k h given stands.
    let word = ap (λ (w : ℕ). w ∷ []) (returns-clause-words g c k h) in (
      next_words (Some g.R.Rate.tables) c.args.law given _ _ _ stands word,
      next_encoder (Some g.R.Rate.tables) c.args.law given _ _ _ _ stands word (c.step.ensures.state k h),
    )
