use Rattle.std.proofs.Common.{◌≡◌, ◌≤◌, ◌<◌, length, false}
use Rattle.gw_trunk.proofs.source.next_record.Given as goal

-- Nothing came and nothing was asked so far, and the room is as long as it was.
abbrev pub invariant-loop-turn : goal.invariant-loop-turn
invariant-loop-turn g l = record {
  came : g.I.TrunkInput.came l.incoming ≡ g.I.TrunkInput.came l.initial.incoming;
  told : g.I.TrunkInput.told l.incoming ≡ g.I.TrunkInput.told l.initial.incoming;
  asked : g.I.TrunkInput.asked l.incoming ≡ g.I.TrunkInput.asked l.initial.incoming;
  some : 0 < length l.room;
  few : length l.room ≤ 2048;
  asked_first : l.turn ≡ false;
  waited : l._turn ≤ g.I.TrunkInput.waits l.incoming;
}
