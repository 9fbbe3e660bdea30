use Rattle.g726_codec.specs.Codec.{encoded, after_words, after_octets}
use Rattle.g726_codec.proofs.encoder.Encoder.reset.Goals as goal

pub returns-clause-stands : goal.returns-clause-stands
unfolding encoded after_octets after_words
returns-clause-stands g c = λ law. c.reset.ensures
