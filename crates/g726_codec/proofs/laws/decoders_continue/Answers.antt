use Rattle.g726_codec.specs.Kinds.{rate_tables}
use Rattle.g726_codec.proofs.EachKind.{decoders_continue}
use Rattle.g726_codec.proofs.laws.decoders_continue.Goals as goal

pub returns : goal.returns
returns c = λ kind. decoders_continue (rate_tables kind)
