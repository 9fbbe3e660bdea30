use Rattle.g726_codec.proofs.any.AnyCodec.decoder.Goals as goal

pub returns : goal.returns
returns c = rw (← c.self.view_is) (c.decoder.ensures c.self.inside.law)
