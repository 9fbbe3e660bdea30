use Rattle.log_files.proofs.Heads.{same_head}
use Rattle.log_files.proofs.head.len_behind.Goals as goal

pub returns-in-Some-clause-some : goal.returns-in-Some-clause-some
returns-in-Some-clause-some c turn len sum h = (same_head c.in-Some.ensures.some h).lens

pub returns-in-None-clause-some : goal.returns-in-None-clause-some
returns-in-None-clause-some c turn len sum h = absurd (c.in-None.ensures.none turn len sum h)
