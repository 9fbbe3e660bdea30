use Rattle.std.proofs.Common.{◌≡◌, ◌≢◌, ◌<◌, ◌≤◌, None}
use Rattle.gw_udp.specs.SourceFilter.{IsAccepted}
use Rattle.gw_udp.specs.Udp.{Skips}
use Rattle.gw_udp.proofs.udp.receive_accepted.Given as goal

-- all that came was of strangers
abbrev pub invariant-loop-turn : goal.invariant-loop-turn
invariant-loop-turn g l = record {
  few : l._turn ≤ 16;
  fresh : l.came ≡ None → l.socket ≡ l.initial.socket;
  some : 0 < l._turn → l.came ≢ None;
  skips : Skips g.S.Socket.receives (IsAccepted l.senders l.peer l.first) l._turn l.initial.socket l.socket;
}
