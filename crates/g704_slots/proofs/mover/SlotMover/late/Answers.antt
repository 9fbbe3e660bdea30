use Rattle.g704_slots.proofs.Standing.{late-searched, late-followed}
use Rattle.g704_slots.proofs.mover.SlotMover.late.Goals as goal

pub returns-in-Searching : goal.returns-in-Searching
returns-in-Searching c first history h =
    late-searched c.in-Searching.seen c.in-Searching.alone c.args.self.now.pass first history
    (rw c.in-Searching.is at h.since)

pub returns-in-Aligned : goal.returns-in-Aligned
returns-in-Aligned c first history h =
    late-followed c.in-Aligned.frame c.args.self.now.pass c.in-Aligned.wrong c.in-Aligned.zero c.in-Aligned.late first
    history (rw c.in-Aligned.is at h.since)
