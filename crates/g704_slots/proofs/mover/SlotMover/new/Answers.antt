use Rattle.std.proofs.Common.{arith}
use Rattle.g704_slots.proofs.Standing.{stands-nothing}
use Rattle.g704_slots.proofs.mover.SlotMover.new.Goals as goal

pub returns-clause-stands : goal.returns-clause-stands
returns-clause-stands c = grind (arith, stands-nothing c.args.first)
