use Rattle.g726_codec.proofs.Lists.{none_coded}
use Rattle.g726_codec.proofs.laws.nothing_is_coded.Goals as goal

pub returns : goal.returns
returns c = none_coded
