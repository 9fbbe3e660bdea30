use Rattle.g726_lanes.proofs.Common.{encoded, after_octets, after_words, all_lanes}
use Rattle.g726_lanes.proofs.Each.{each_lane}
use Rattle.g726_lanes.proofs.Steps.{made_same}
use Rattle.g726_lanes.proofs.lanes.Lanes.reset.Goals as goal

pub returns-clause-state : goal.returns-clause-state
returns-clause-state c =
    each_lane _ (all_lanes (λ i h. made_same (c.reset.ensures i h) (c.reset-predictions.ensures i h)))

pub returns-clause-encoders : goal.returns-clause-encoders
unfolding after_octets after_words encoded
returns-clause-encoders c = λ k h tables law. returns-clause-state c k h

pub returns-clause-decoders : goal.returns-clause-decoders
unfolding after_words
returns-clause-decoders c = λ k h tables. returns-clause-state c k h
