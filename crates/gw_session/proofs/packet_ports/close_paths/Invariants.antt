use Rattle.std.proofs.Common.{◌≡◌}
use Rattle.gw_session.proofs.packet_ports.close_paths.Given as goal

abbrev pub invariant-loop-number : goal.invariant-loop-number
invariant-loop-number g l = g.P.Ports.tells l.ports ≡ g.P.Ports.tells l.initial.ports
