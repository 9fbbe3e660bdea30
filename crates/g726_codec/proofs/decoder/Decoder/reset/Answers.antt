use Rattle.g726_codec.specs.Codec.{after_words}
use Rattle.g726_codec.proofs.decoder.Decoder.reset.Goals as goal

pub returns-clause-stands : goal.returns-clause-stands
unfolding after_words
returns-clause-stands g c = c.reset.ensures
