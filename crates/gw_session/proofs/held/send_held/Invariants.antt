use Rattle.gw_session.proofs.Common.{◌≡◌, take, GoToPorts, packets_held, TakesAllButWaiting}
use Rattle.gw_session.proofs.held.send_held.Given as goal

abbrev pub invariant-loop-i : goal.invariant-loop-i
invariant-loop-i g l = record {
  sends : GoToPorts (g.O.PacketPorts.tells l.initial.packet_ports) (g.O.PacketPorts.tells l.packet_ports)
      l.initial.totals l.totals (packets_held (take l.i l.held));
  passes : TakesAllButWaiting (g.L.Line.output l.initial.line).sink.taken (g.L.Line.output l.line).sink.taken
      (g.L.Line.output l.line).waiting (g.L.Line.output l.initial.line).waiting;
  no_failure : (g.L.Line.output l.line).sink.failures ≡ (g.L.Line.output l.initial.line).sink.failures;
  input : g.L.Line.input l.line ≡ g.L.Line.input l.initial.line;
  terms : g.L.Line.terms l.line ≡ g.L.Line.terms l.initial.line;
}
