use Rattle.std.proofs.Common.{rules}
use Rattle.satop_playout.proofs.Keeping.{stands-begun, emptied-all, rewritten}
use Rattle.satop_playout.proofs.playout.SatopPlayout.begin.Goals as goal

pub returns-clause-stands : goal.returns-clause-stands
returns-clause-stands c = search (rules, rewritten, stands-begun, emptied-all)
