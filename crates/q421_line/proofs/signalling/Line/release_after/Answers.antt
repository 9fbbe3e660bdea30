use Rattle.q421_line.proofs.Steps.{stands-waiting}
use Rattle.q421_line.proofs.signalling.Line.release_after.Goals as goal

pub returns : goal.returns
returns c role items stands = stands-waiting c.args.self.now role items c.args.signals stands
