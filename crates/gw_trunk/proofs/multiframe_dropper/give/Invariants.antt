use Rattle.std.proofs.Common.{◌≡◌, ◌≤◌}
use Rattle.gw_trunk.proofs.multiframe_dropper.give.Given as goal

-- Nothing went so far, and no wait is forgotten.
abbrev pub invariant-loop-turn : goal.invariant-loop-turn
invariant-loop-turn g l = record {
  went : g.O.TrunkOutput.went l.outgoing ≡ g.O.TrunkOutput.went l.initial.outgoing;
  waits : g.O.TrunkOutput.slow_waits l.initial.outgoing ≤ g.O.TrunkOutput.slow_waits l.outgoing;
}
