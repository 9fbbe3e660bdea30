use Rattle.g726_codec.proofs.any.AnyCodec.save.Goals as goal

pub returns-clause-fits : goal.returns-clause-fits
returns-clause-fits c = rw (← c.self.view_is) (c.save.ensures.fits c.self.inside.law)
