use Rattle.gw_circuit.proofs.Common.{◌≡◌, take, rate_tables, after_by}
use Rattle.gw_circuit.proofs.ahead.decode_from.Given as goal

-- the words before the index are decoded
abbrev pub invariant-loop-i : goal.invariant-loop-i
invariant-loop-i l =
    l.codec ≡ record l.fn.codec { decoder = after_by (rate_tables l.fn.codec.kind) l.base (take l.i l.words) }
