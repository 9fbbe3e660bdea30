use Rattle.std.proofs.Common.{◌≡◌, ◌≤◌, ◌++◌, ℕ, List, [], length}
use Rattle.gw_satop.specs.Session.{HasSettings}
use Rattle.gw_satop.proofs.circuit.SatopCircuit.hear_all.Given as goal

-- Both halves and the pace are set up as they were, time stands, and one datagram was received in each round.
abbrev pub invariant-loop-datagram : goal.invariant-loop-datagram
invariant-loop-datagram g l = record {
  same : HasSettings l.initial.self.receiver l.self.receiver l.initial.self.sender l.self.sender
      l.initial.self.pace l.self.pace;
  time : l.self.pace.counted ≡ l.initial.self.pace.counted;
  incoming : l.self.incoming ≡ l.initial.self.incoming;
  heard : (heard : List (List ℕ)) × (l.self.peer.received.datagrams ≡ l.initial.self.peer.received.datagrams ++ heard)
      × (length heard ≡ l._datagram);
  grows : length (g.O.TrunkOutput.went l.initial.self.outgoing ++ l.initial.self.left.items)
      ≤ length (g.O.TrunkOutput.went l.self.outgoing ++ l.self.left.items);
  all : l.initial.self.left.items ≡ [] → l.self.left.items ≡ [];
}
