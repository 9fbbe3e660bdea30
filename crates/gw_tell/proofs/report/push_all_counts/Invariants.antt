use Rattle.std.proofs.Common.{◌≡◌, ◌≤◌, ◌+◌, ◌-◌, ◌*◌, ◌++◌, length}
use Rattle.gw_tell.specs.Reports.{counts_lines}
use Rattle.gw_tell.proofs.report.push_all_counts.Given as goal

-- the lines of the circuits so far are there
abbrev pub invariant-loop-number : goal.invariant-loop-number
invariant-loop-number l = record {
  some : 1 ≤ l.number;
  most : l.number ≤ 31;
  len : length l.text.items + 343 ≤ length l.fn.text.items + 343 * l.number;
  lines : l.text.items ≡ l.fn.text.items ++ counts_lines l.all l.counts (l.number - 1);
}
