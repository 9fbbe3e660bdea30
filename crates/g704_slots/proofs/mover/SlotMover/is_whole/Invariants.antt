use Rattle.std.proofs.Common.{◌≡◌, ◌+◌, ◌*◌, ◌%◌, ◌<◌, ℕ, slice_index, true}
use Rattle.g704_slots.specs.Search.{is_right}
use Rattle.g704_slots.proofs.mover.SlotMover.is_whole.Given as goal

-- the octets of slot 16 so far are right
abbrev pub invariant-loop-frame : goal.invariant-loop-frame
invariant-loop-frame l = (frame : ℕ) → frame < l.frame
    → is_right frame (slice_index l.self.memory ((l.start + 31 * frame) % 65536 % 2048)) ≡ true
