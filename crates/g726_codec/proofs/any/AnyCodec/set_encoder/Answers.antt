use Rattle.g726_codec.proofs.any.AnyCodec.set_encoder.Goals as goal

pub returns : goal.returns
returns c = rw (← c.self.view_is) (c.set_encoder.ensures c.self.inside.law)
