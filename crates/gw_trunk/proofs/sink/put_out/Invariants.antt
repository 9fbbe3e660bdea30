use Rattle.std.proofs.Common.{◌≡◌, ◌≤◌}
use Rattle.gw_trunk.proofs.sink.put_out.Given as goal

-- Nothing went so far, and each turn waited.
abbrev pub invariant-loop-turn : goal.invariant-loop-turn
invariant-loop-turn g l = record {
  went : g.O.TrunkOutput.went l.outgoing ≡ g.O.TrunkOutput.went l.initial.outgoing;
  waited : l._turn ≤ g.O.TrunkOutput.waits l.outgoing;
}
