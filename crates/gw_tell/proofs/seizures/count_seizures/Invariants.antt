use Rattle.std.proofs.Common.{◌≡◌, ◌≤◌, ◌<◌, ℕ, length}
use Rattle.gw_tell.specs.Reports.{of_circuit}
use Rattle.gw_tell.specs.Seizures.{count_of, seizures_after}
use Rattle.gw_tell.proofs.seizures.count_seizures.Given as goal

-- the circuits so far are counted, and the others are as they were
abbrev pub invariant-loop-i : goal.invariant-loop-i
invariant-loop-i l = record {
  count : length l.counts ≡ 30;
  counted : (c : ℕ) → 1 ≤ c → c ≤ l.i
      → count_of l.counts c ≡ seizures_after (count_of l.fn.counts c) (of_circuit l.was c) (of_circuit l.is c);
  rest : (c : ℕ) → l.i < c → count_of l.counts c ≡ count_of l.fn.counts c;
}
