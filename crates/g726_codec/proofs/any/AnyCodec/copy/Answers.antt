use Rattle.g726_codec.proofs.any.AnyCodec.copy.Goals as goal

pub returns : goal.returns
returns c = rw (← c.self.view_is) (c.copy.ensures c.self.inside.law)
