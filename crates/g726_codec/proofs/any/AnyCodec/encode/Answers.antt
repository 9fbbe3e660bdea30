use Rattle.std.proofs.Common.{◌∙◌}
use Rattle.g726_codec.proofs.EachKind.{words_of_one, after_octets}
use Rattle.g726_codec.proofs.any.AnyCodec.encode.Goals as goal

pub returns-clause-word : goal.returns-clause-word
returns-clause-word c = rw (← c.self.view_is) c.encode.ensures.word

pub returns-clause-state : goal.returns-clause-state
returns-clause-state c = rw (← c.self.view_is) c.encode.ensures.state

pub returns-clause-words : goal.returns-clause-words
returns-clause-words c =
    λ law kind octets words stands. (after_octets law kind octets words _ _
    (words_of_one _ _ _ _ _ (rw stands at (returns-clause-word c)))).0

pub returns-clause-stands : goal.returns-clause-stands
returns-clause-stands c =
    λ law kind octets words stands. (rw stands at (returns-clause-state c))
    ∙ (after_octets law kind octets words _ _ (words_of_one _ _ _ _ _ (rw stands at (returns-clause-word c)))).1
