use Rattle.std.proofs.Common.{◌≡◌, ◌≤◌, ◌++◌, ℕ, List, length, drop}
use Rattle.circular_buffer.specs.Buffer.{keep_last}
use Rattle.satop_playout.specs.Replacement.{again}
use Rattle.satop_playout.proofs.filling.repeat.Given as goal

abbrev pub invariant-loop-i : goal.invariant-loop-i
invariant-loop-i l = (all : List ℕ) → l.given.items ≡ keep_last 512 all → 512 ≤ length l.given.items
    → l.room ≡ again l.i all ++ drop l.i l.initial.room
