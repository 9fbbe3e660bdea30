use Rattle.g726_lanes.proofs.Common.{IsCodedTo, EachLane, row_at, variables}
use Rattle.g726_lanes.proofs.lanes.Lanes.encode_rows.Given as goal

-- the octets before the index are coded in each row, the others are unchanged
abbrev pub invariant-loop-i : goal.invariant-loop-i
invariant-loop-i g l =
    EachLane (λ k. IsCodedTo g.R.Rate.tables l.fn.law (variables l.initial.self k) (variables l.self k)
    (row_at l.fn.rows k) (row_at l.rows k) l.i)
