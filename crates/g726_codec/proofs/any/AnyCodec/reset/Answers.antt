use Rattle.g726_codec.proofs.EachKind.{reset_stands}
use Rattle.g726_codec.specs.Views.{kind_of}
use Rattle.g726_codec.proofs.any.AnyCodec.reset.Goals as goal

pub returns : goal.returns
returns c =
    let law = c.self.inside.law in
    let stands = reset_stands law (kind_of c.self.inside.codec) in
    rw (c.reset-self-inside.ensures law, c.kind.ensures, ← c.self.view_is) stands
