use Rattle.g726_lanes.proofs.Common.{◌≡◌, ◌<◌, ◌+ℤ◌, ℕ, ℤ, pos, length, get_or, take, int_le, count_by}
use Rattle.g726_lanes.proofs.quantiser.quan_magnitude.Given as goal

-- in each lane as many as there are among the thresholds before the index
abbrev pub invariant-loop-threshold : goal.invariant-loop-threshold
invariant-loop-threshold l = record {
  lanes_are : l.dln ≡ l.fn.dln;
  long : length l.count ≡ 8;
  value : (k : ℕ) → k < 8 → (z : ℤ) → pos (get_or l.fn.dln k 0) ≡ z +ℤ pos 2048
      → get_or l.count k 0 ≡ count_by (λ t. int_le t z) (take l.threshold-index l.thresholds);
}
