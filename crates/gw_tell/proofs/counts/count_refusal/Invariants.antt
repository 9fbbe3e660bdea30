use Rattle.std.proofs.Common.{◌≡◌, ◌≤◌, ◌<◌, ℕ, length}
use Rattle.gw_tell.specs.Counts.{nth, reasons, refused_after}
use Rattle.gw_tell.proofs.counts.count_refusal.Given as goal

-- the reasons so far are counted, and the others are as they were
abbrev pub invariant-loop-i : goal.invariant-loop-i
invariant-loop-i l = record {
  count : length l.refused ≡ 12;
  counted : (k : ℕ) → k < l.i → nth l.refused k ≡ refused_after (nth l.fn.refused k) (nth reasons k) l.code;
  rest : (k : ℕ) → l.i ≤ k → nth l.refused k ≡ nth l.fn.refused k;
}
