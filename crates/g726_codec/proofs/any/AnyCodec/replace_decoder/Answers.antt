use Rattle.g726_codec.proofs.any.AnyCodec.replace_decoder.Goals as goal

pub returns-clause-before : goal.returns-clause-before
returns-clause-before c = rw (← c.self.view_is) (c.replace_decoder.ensures.before c.self.inside.law)

pub returns-clause-state : goal.returns-clause-state
returns-clause-state c = rw (← c.self.view_is) (c.replace_decoder.ensures.state c.self.inside.law)
