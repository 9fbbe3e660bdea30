use Rattle.std.proofs.Common.{◌≡◌, ◌≤◌, ◌+◌, ◌-◌, ◌*◌, ℕ, length}
use Rattle.gw_tell.specs.Reports.{RowSteps, of_circuit}
use Rattle.gw_tell.proofs.report.report_rows.Given as goal

-- the circuits so far are reported, and the others are as they were
abbrev pub invariant-loop-number : goal.invariant-loop-number
invariant-loop-number l = record {
  some : 1 ≤ l.number;
  most : l.number ≤ 31;
  count : length l.told ≡ 30;
  len : length l.text.items + 80 ≤ length l.fn.text.items + 80 * l.number;
  steps : RowSteps l.due l.fn.told l.is l.told l.fn.text.items l.text.items (l.number - 1);
  rest : (c : ℕ) → l.number ≤ c → of_circuit l.told c ≡ of_circuit l.fn.told c;
}
