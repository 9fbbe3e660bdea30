use Rattle.std.proofs.Common.{rules}
use Rattle.trunk_filters.proofs.Drops.{nothing-framed}
use Rattle.trunk_filters.proofs.dropping.SlotDropper.new.Goals as goal
use Rattle.trunk_filters.proofs.dropping.SlotDropper.new.Goals.{then-is_on, else-is_on}

pub returns-clause-begins : goal.returns-clause-begins
returns-clause-begins c = search (rules, then-is_on, nothing-framed, else-is_on)
