use Rattle.std.proofs.Common.{inl, inr}
use Rattle.g704_align.proofs.Standing.{alarm-in}
use Rattle.g704_align.proofs.alignment.Aligner.alarm.Goals as goal

pub returns-in-Searching : goal.returns-in-Searching
returns-in-Searching c history h = elim c.in-Searching.is [
  | inl e ↦ alarm-in c.args.self.now.phase _ history e h
  | inr e ↦ alarm-in c.args.self.now.phase _ history e.1 h
]

pub returns-in-Aligned : goal.returns-in-Aligned
returns-in-Aligned c history h = alarm-in c.args.self.now.phase _ history c.in-Aligned.is h
