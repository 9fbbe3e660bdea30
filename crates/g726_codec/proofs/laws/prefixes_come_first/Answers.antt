use Rattle.g726_codec.proofs.Lists.{come_first}
use Rattle.g726_codec.proofs.laws.prefixes_come_first.Goals as goal

pub returns : goal.returns
returns c = come_first
