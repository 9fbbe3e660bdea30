use Rattle.g704_slots.proofs.Standing.{stands-aligned}
use Rattle.g704_slots.proofs.mover.SlotMover.phase_after.Goals as goal

pub returns-in-Aligned : goal.returns-in-Aligned
returns-in-Aligned c first history h none =
    stands-aligned c.in-Aligned.frame 0 _ c.in-Aligned.wrong c.in-Aligned.zero c.in-Aligned.late first history
    c.args.octet c.after_aligned.result (rw (c.in-Aligned.is, none) at h.since) c.after_aligned.ensures
