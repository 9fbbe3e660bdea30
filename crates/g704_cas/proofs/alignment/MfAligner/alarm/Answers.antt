use Rattle.g704_cas.proofs.Standing.{alarm-searching, alarm-aligned}
use Rattle.g704_cas.proofs.alignment.MfAligner.alarm.Goals as goal

pub returns-in-Searching : goal.returns-in-Searching
returns-in-Searching c history h = alarm-searching c.args.self.now.phase history _ c.in-Searching.is h

pub returns-in-Aligned : goal.returns-in-Aligned
returns-in-Aligned c history h = alarm-aligned c.args.self.now.phase history _ _ c.in-Aligned.is h
