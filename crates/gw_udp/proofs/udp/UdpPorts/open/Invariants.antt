use Rattle.std.proofs.Common.{◌≡◌, ◌+◌, ◌-◌, ◌≤◌}
use Rattle.std.specs.Prelude.{vec_len, vec_capacity}
use Rattle.gw_udp.specs.Udp.{HasEndpoints}
use Rattle.gw_udp.proofs.udp.UdpPorts.open.Given as goal

-- one place for each circuit so far, with the socket of its own ports
abbrev pub invariant-loop-number : goal.invariant-loop-number
invariant-loop-number g l = record {
  some : 1 ≤ l.number;
  len : vec_len l.endpoints + 1 ≡ l.number;
  memory : vec_capacity l.endpoints ≡ 30;
  own : HasEndpoints l.asked.host.now l.asked.senders l.ports l.endpoints.items (l.number - 1);
}
