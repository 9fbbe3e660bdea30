use Rattle.std.proofs.Common.{rules}
use Rattle.satop_playout.proofs.Keeping.{empty-push}
use Rattle.satop_playout.proofs.slot.empty_slots.Goals as goal

pub loop-preserved : goal.loop-preserved
loop-preserved c = search (rules, empty-push)
