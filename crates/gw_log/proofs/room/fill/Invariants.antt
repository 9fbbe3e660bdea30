use Rattle.std.proofs.Common.{◌-◌, ◌≡◌, ◌≤◌}
use Rattle.log_files.specs.Stores.{WhereKnown}
use Rattle.gw_log.specs.Room.{FillsUpTo}
use Rattle.gw_log.proofs.room.fill.Given as goal

abbrev pub invariant-loop-at : goal.invariant-loop-at
invariant-loop-at g l = (l.from ≤ l.at) × (l.at ≤ l.room) × (l.room ≡ g.S.Store.room l.store)
    × (l.room ≡ g.S.Store.room l.fn.store)
    × WhereKnown (g.S.Store.holds l.fn.store) (g.S.Store.holds l.store) (FillsUpTo l.from l.at)

abbrev pub decreases-loop-at : goal.decreases-loop-at
decreases-loop-at g l = l.room - l.at
