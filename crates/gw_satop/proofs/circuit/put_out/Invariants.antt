use Rattle.std.proofs.Common.{◌≡◌, ◌<◌, ◌≤◌, ◌+◌, ◌++◌, length}
use Rattle.gw_satop.proofs.circuit.put_out.Given as goal

-- What went and what is left is what went at first and was left then. In each turn an octet went, or it was waited
-- for room.
abbrev pub invariant-loop-turn : goal.invariant-loop-turn
invariant-loop-turn g l = record {
  went : g.O.TrunkOutput.went l.outgoing ++ l.left.items
      ≡ g.O.TrunkOutput.went l.initial.outgoing ++ l.initial.left.items;
  turns : 0 < l._turn → l._turn + length l.left.items ≤ 1280 + g.O.TrunkOutput.waits l.outgoing;
}
