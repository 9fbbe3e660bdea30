use Rattle.std.proofs.Common.{◌∙◌}
use Rattle.g726_codec.proofs.EachKind.{octets_of_one, after_words}
use Rattle.g726_codec.proofs.any.AnyCodec.decode.Goals as goal

pub returns-clause-octet : goal.returns-clause-octet
returns-clause-octet c = rw (← c.self.view_is) c.decode.ensures.octet

pub returns-clause-state : goal.returns-clause-state
returns-clause-state c = rw (← c.self.view_is) c.decode.ensures.state

pub returns-clause-octets : goal.returns-clause-octets
returns-clause-octets c =
    λ law kind octets words stands. (after_words law kind octets words _ _
    (octets_of_one _ _ _ _ _ (rw stands at (returns-clause-octet c)))).0

pub returns-clause-stands : goal.returns-clause-stands
returns-clause-stands c =
    λ law kind octets words stands. (rw stands at (returns-clause-state c))
    ∙ (after_words law kind octets words _ _ (octets_of_one _ _ _ _ _ (rw stands at (returns-clause-octet c)))).1
