use Rattle.g726_codec.proofs.any.AnyCodec.load.Goals as goal

pub returns-clause-kind : goal.returns-clause-kind
returns-clause-kind c = c.in_ok-codec.ensures.kind c.args.law
