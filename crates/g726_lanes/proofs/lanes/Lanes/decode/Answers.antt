use Rattle.g726_lanes.proofs.Common.{ℕ, Some, [], ◌∷◌, ap, refl, sync, decoded, after_words}
use Rattle.g726_codec.proofs.Histories.{next_octets, next_decoder}
use Rattle.g726_lanes.proofs.Steps.{is_in_lane, se_low, se_high}
use Rattle.g726_lanes.proofs.lanes.Lanes.decode.Goals as goal

pub subta-requires-clause-estimates_low : goal.subta-requires-clause-estimates_low
subta-requires-clause-estimates_low g c = λ k h. rw (c.self.invariant.all_are k h) (se_low _)

pub subta-requires-clause-estimates_high : goal.subta-requires-clause-estimates_high
subta-requires-clause-estimates_high g c = λ k h. rw (c.self.invariant.all_are k h) (se_high _)

pub returns-clause-octets : goal.returns-clause-octets
unfolding sync
returns-clause-octets g c = λ i h.
    let s = c.self.inside in
    rw (
      c.adjusted_codes.ensures i h,
      c.quantise-again.ensures.value i h,
      c.scales-y.ensures.value i h,
      c.subta.ensures.value i h,
      c.samples_of.ensures.value i h,
      c.self.invariant.all_are i h,
      c.codes_of-codes.ensures i h,
      c.step-signals.ensures.signals i h,
      is_in_lane s.adaptations s.predictions c.self.view_is i h,
    ) refl

pub returns-clause-history : goal.returns-clause-history
unfolding decoded after_words
returns-clause-history g c = λ k h given stands. (
  next_octets (Some g.R.Rate.tables) c.args.law given _ _ _ stands
      (ap (λ (o : ℕ). o ∷ []) (returns-clause-octets g c k h)),
  next_decoder (Some g.R.Rate.tables) given _ _ _ stands (c.step-signals.ensures.state k h),
)
