use Rattle.std.proofs.Common.{◌≡◌, ◌+◌, ◌<◌, ◌≤◌, ◌++◌, length}
use Rattle.trunk_filters.specs.Outgoing.{WasOffered}
use Rattle.trunk_filters.proofs.outgoing.give_now.Given as goal

-- What went and what is held is what went at first and was held then; each turn fewer octets are held. There was
-- no wait, and the last write was of all that was held.
abbrev pub invariant-loop-turn : goal.invariant-loop-turn
invariant-loop-turn g l = record {
  went : g.O.TrunkOutput.went l.outgoing ++ l.held.items
      ≡ g.O.TrunkOutput.went l.initial.outgoing ++ l.initial.held.items;
  fewer : l._turn + length l.held.items ≤ length l.initial.held.items;
  waits : g.O.TrunkOutput.waits l.outgoing ≡ g.O.TrunkOutput.waits l.initial.outgoing;
  slow : g.O.TrunkOutput.slow_waits l.outgoing ≡ g.O.TrunkOutput.slow_waits l.initial.outgoing;
  given : 0 < l._turn → WasOffered (g.O.TrunkOutput.was_given l.outgoing) l.held.items;
}
