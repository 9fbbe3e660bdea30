use Rattle.g726_lanes.proofs.Frames.{IsDecodedTo}
use Rattle.g726_lanes.proofs.Common.{EachLane, row_at, variables}
use Rattle.g726_lanes.proofs.lanes.Lanes.decode_rows.Given as goal

-- the words before the index are decoded in each row, the others are unchanged
abbrev pub invariant-loop-i : goal.invariant-loop-i
invariant-loop-i g l =
    EachLane (λ k. IsDecodedTo g.R.Rate.tables l.fn.law (variables l.initial.self k) (variables l.self k)
    (row_at l.fn.rows k) (row_at l.rows k) l.i)
