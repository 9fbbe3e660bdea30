use Rattle.std.proofs.Common.{◌∙◌}
use Rattle.g726_codec.proofs.EachKind.{reset_stands}
use Rattle.g726_codec.proofs.any.AnyCodec.new.Goals as goal

pub returns : goal.returns
returns c = c.reset.ensures c.args.law ∙ reset_stands c.args.law c.args.kind
