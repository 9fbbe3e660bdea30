use Rattle.g726_lanes.proofs.Common.{◌≡◌, ◌<◌, ◌≤◌, slice_set, length, EachLane, lane, row_at}
use Rattle.g726_lanes.proofs.lanes.frames.put_frame.Given as goal

-- the rows before the index have their numbers, the others are unchanged
abbrev pub invariant-loop-k : goal.invariant-loop-k
invariant-loop-k l = record {
  eight : length l.rows ≡ 8;
  done : EachLane (λ j. j < l.k → row_at l.rows j ≡ slice_set (row_at l.initial.rows j) l.i (lane l.frame j));
  rest : EachLane (λ j. l.k ≤ j → row_at l.rows j ≡ row_at l.initial.rows j);
}
