use Rattle.std.proofs.Common.{length, take, ◌-◌, ◌≡◌, ◌++◌, ◌<◌, ◌≤◌, ℕ, List}
use Rattle.gw_satop.specs.declared.line.Receiver.{Receiver}
use Rattle.gw_satop.specs.declared.pace.PlayClock.{PlayClock}
use Rattle.gw_satop.specs.Counts.{CountsSends}
use Rattle.gw_satop.specs.Session.{PlaysAll}
use Rattle.gw_satop.specs.Sending.{packets_of}
use Rattle.gw_satop.proofs.circuit.send_all.Given as goal

-- The octets before this place were taken, and the packets of all that came were sent, with bit R in silence.
abbrev pub invariant-loop-at : goal.invariant-loop-at
invariant-loop-at g l = record {
  rest : length l.sender.held.items < l.sender.start.size;
  sent : l.peer.sent.datagrams ≡ packets_of l.sender.start l.sender.log.flags l.sender.came.octets;
  came : l.sender.came.octets ≡ l.initial.sender.came.octets ++ take l.at l.octets;
  within : l.at ≤ length l.octets;
  received : l.peer.received.datagrams ≡ l.initial.peer.received.datagrams;
  start : l.sender.start ≡ l.initial.sender.start;
  counted : CountsSends l.initial.counts l.initial.sender.log.flags l.initial.peer.sent.flags
      → CountsSends l.counts l.sender.log.flags l.peer.sent.flags;
  plays : (receiver : Receiver) (pace : PlayClock) (received : List (List ℕ)) (went : List ℕ) → l.missing ≡ pace.silent
      → PlaysAll receiver pace l.initial.counts l.initial.sender.log.flags received went
      → PlaysAll receiver pace l.counts l.sender.log.flags received went;
}

abbrev pub decreases-loop-at : goal.decreases-loop-at
decreases-loop-at g l = length l.octets - l.at
