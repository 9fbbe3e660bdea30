use Rattle.g726_codec.proofs.Lists.{counted}
use Rattle.g726_codec.proofs.laws.words_are_counted.Goals as goal

pub returns : goal.returns
returns c = counted
