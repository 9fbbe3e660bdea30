use Rattle.std.proofs.Common.{◌∙◌}
use Rattle.g726_codec.proofs.EachKind.{after_octets}
use Rattle.g726_codec.proofs.any.AnyCodec.encode_all.Goals as goal

pub returns-clause-coded : goal.returns-clause-coded
returns-clause-coded c = rw (← c.self.view_is) c.encode_all.ensures.words

pub returns-clause-state : goal.returns-clause-state
returns-clause-state c = rw (← c.self.view_is) c.encode_all.ensures.state

pub returns-clause-words : goal.returns-clause-words
returns-clause-words c =
    λ law kind given words stands. (after_octets law kind given words _ _ (rw stands at (returns-clause-coded c))).0

pub returns-clause-stands : goal.returns-clause-stands
returns-clause-stands c =
    λ law kind given words stands. (rw stands at (returns-clause-state c))
    ∙ (after_octets law kind given words _ _ (rw stands at (returns-clause-coded c))).1
