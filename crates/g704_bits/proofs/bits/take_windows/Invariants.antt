use Rattle.std.proofs.Common.{◌++◌, ◌≤◌, ℕ, List, take}
use Rattle.g704_bits.specs.Bits.{windows_in, windows_of}
use Rattle.g704_bits.specs.Aligner.{HasHistory}
use Rattle.g704_bits.proofs.bits.take_windows.Given as goal

-- the aligner has the history of the windows so far
abbrev pub invariant-loop-bit : goal.invariant-loop-bit
invariant-loop-bit l = record {
  few : l.bit ≤ 8;
  stands : (history : List ℕ) → HasHistory l.fn.aligner (windows_of history)
      → HasHistory l.aligner (windows_of history ++ take l.bit (windows_in l.before l.octet));
}
