use Rattle.std.proofs.Common.{◌∙◌}
use Rattle.q421_line.proofs.Seizure.{most-is}
use Rattle.q421_line.proofs.signalling.Line.released_after.Goals as goal

pub returns : goal.returns
returns c role items stands = stands.released_after_is ∙ most-is role items
