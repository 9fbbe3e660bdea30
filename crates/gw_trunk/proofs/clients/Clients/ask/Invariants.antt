use Rattle.std.proofs.Common.{◌≡◌, length}
use Rattle.gw_trunk.specs.Clients.{GaveNothing}
use Rattle.gw_trunk.proofs.clients.Clients.ask.Given as goal

-- The clients that were asked so far gave nothing, and the others are as they were.
abbrev pub invariant-loop-turn : goal.invariant-loop-turn
invariant-loop-turn l = record {
  none : GaveNothing l.initial.self.next l.turn l.initial.self.places l.self.places;
  same : l.self ≡ record l.initial.self { places = l.self.places };
  places : length l.self.places ≡ 8;
}
