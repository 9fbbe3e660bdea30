use Rattle.std.proofs.Common.{◌≡◌, ◌≤◌, ◌<◌, ℕ, length, true}
use Rattle.gw_tell.specs.Counts.{counts_at, told_at}
use Rattle.gw_tell.proofs.counts.set_told.Given as goal

-- the circuits so far are told, and the others are as they were
abbrev pub invariant-loop-i : goal.invariant-loop-i
invariant-loop-i l = record {
  count : length l.counts ≡ 30;
  told : (c : ℕ) → 1 ≤ c → c ≤ l.i → counts_at l.counts c ≡ told_at true (counts_at l.fn.counts c);
  rest : (c : ℕ) → l.i < c → counts_at l.counts c ≡ counts_at l.fn.counts c;
}
