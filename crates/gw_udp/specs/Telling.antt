-- What the sockets of circuits report.
use Rattle.std.specs.Prelude.{◌≡◌, flat_map, replicate, Some, None}
use Rattle.gw_records.specs.Ports.{PortsState, given_by_call, taken_by_call}
use Rattle.gw_udp.specs.Resting.{AsksSystem}
use Rattle.gw_udp.specs.Udp.{addresses_of}
use Rattle.gw_udp.specs.declared.udp.UdpPorts.{UdpPorts}

-- Sockets report how many receives and sends have failed, their addresses, and all calls with what they gave
-- and took. What is queued in the system is not known.
abbrev pub told : {S : Type 0} {m : _} → UdpPorts S m → PortsState
told ports = record {
  receive_failures = ports.receive_failed;
  send_failures = ports.send_failed;
  addresses = addresses_of ports.opened.value.items;
  waiting = None;
  given = Some (flat_map given_by_call ports.log.calls);
  taken = Some (flat_map taken_by_call ports.log.calls);
  calls = Some ports.log.calls;
}

-- Sockets have looked: the system was asked what came to them, and none gave an octet since.
pub record HasLooked {S : Type 0} {m : _} (before ports : UdpPorts S m) : Type 0 where
  pub asked : AsksSystem before.readiness.rests ports.readiness.rests
  pub cleared : ports.given.counts ≡ replicate 30 0
  pub from_here : ports.at_look.value.calls ≡ ports.log.calls
