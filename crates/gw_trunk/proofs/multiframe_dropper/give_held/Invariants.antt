use Rattle.std.proofs.Common.{◌≡◌, ◌≤◌, ◌+◌, ◌++◌, length}
use Rattle.gw_trunk.proofs.multiframe_dropper.give_held.Given as goal

-- What went and what is held is what went at first and was held then.
abbrev pub invariant-loop-turn : goal.invariant-loop-turn
invariant-loop-turn g l = record {
  went : g.O.TrunkOutput.went l.outgoing ++ l.held.items
      ≡ g.O.TrunkOutput.went l.initial.outgoing ++ l.initial.held.items;
  shorter : length l.held.items ≤ length l.initial.held.items;
  fewer : l._turn + length l.held.items ≤ length l.initial.held.items;
  waits : g.O.TrunkOutput.slow_waits l.initial.outgoing ≤ g.O.TrunkOutput.slow_waits l.outgoing;
}
