use Rattle.std.proofs.Common.{◌≡◌, ◌≤◌, true, false, length}
use Rattle.gw_trunk.specs.Clients.{Stays}
use Rattle.gw_trunk.proofs.client.Client.refill.Given as goal

-- It gave nothing more and got nothing more so far, and each turn read an octet, unless nothing is to be read.
abbrev pub invariant-loop-turn : goal.invariant-loop-turn
invariant-loop-turn l = record {
  stays : Stays l.initial.self l.self;
  each : l.self.ready ≡ true → l.self.ended ≡ false → l._turn ≤ length l.self.held.items;
}
