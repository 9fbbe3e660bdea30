use Rattle.std.proofs.Common.{◌≡◌, ◌<◌, ℕ, None}
use Rattle.satop_playout.specs.Standing.{packet_of}
use Rattle.satop_playout.proofs.playout.SatopPlayout.begin.Given as goal

abbrev pub invariant-loop-slot : goal.invariant-loop-slot
invariant-loop-slot l = (size p : ℕ) → p < l.slot-index → packet_of size l.slot-items p ≡ None
