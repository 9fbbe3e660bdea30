use Rattle.g726_codec.specs.Kinds.{bits_of}
use Rattle.g726_lanes.proofs.Frames.{zeros-fit}
use Rattle.g726_lanes.proofs.bundle.Bundle.new.Goals as goal

pub returns-clause-fit : goal.returns-clause-fit
returns-clause-fit c = λ k h. zeros-fit (bits_of c.args.kind) c.args.count k h
