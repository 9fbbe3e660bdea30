use Rattle.g726_codec.proofs.any.AnyCodec.encoder.Goals as goal

pub returns : goal.returns
returns c = rw (← c.self.view_is) (c.encoder.ensures c.self.inside.law)
