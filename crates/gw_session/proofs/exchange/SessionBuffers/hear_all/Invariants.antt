use Rattle.gw_session.proofs.Common.{◌≡◌, ◌-◌, ◌≤◌, true, length, gone_to, world_in, world_with, packets_held}
use Rattle.gw_session.proofs.Common.{body_of, HeardSo}
use Rattle.gw_session.proofs.exchange.SessionBuffers.hear_all.Given as goal

abbrev pub invariant-hearing : goal.invariant-hearing
invariant-hearing g l = record {
  heard : HeardSo g.W.Watch.shows l.initial.observers.watch l.observers.watch l.self.holding g.O.PacketPorts.spells
      (world_in l.initial.self.held.holds (g.O.PacketPorts.tells l.initial.packet_ports) l.initial.gateway
      l.initial.self.totals (g.T.Tape.tells l.initial.observers.tape) (g.L.Line.output l.initial.line))
      (world_with l.initial.self.held.holds (packets_held l.self.held.packets.items)
      (g.O.PacketPorts.tells l.packet_ports) l.gateway l.self.totals
      (g.T.Tape.tells l.observers.tape) (g.L.Line.output l.line))
      l.self.batch.items (body_of l.first (g.L.Line.input l.initial.line).held.octets) (length l.self.answer.items)
      l.self.recorded l.self.answer.items;
  within : length l.self.answer.items ≤ length (body_of l.first (g.L.Line.input l.initial.line).held.octets);
  still : l.self.holding ≡ true → gone_to (g.O.PacketPorts.tells l.packet_ports) (g.L.Line.output l.line).sink
      ≡ gone_to (g.O.PacketPorts.tells l.initial.packet_ports) (g.L.Line.output l.initial.line).sink;
  no_failure : (g.L.Line.output l.line).sink.failures ≡ (g.L.Line.output l.initial.line).sink.failures;
  input : g.L.Line.input l.line ≡ g.L.Line.input l.initial.line;
  terms : g.L.Line.terms l.line ≡ g.L.Line.terms l.initial.line;
  holding : l.self.holding ≡ l.initial.self.holding;
  holds : l.self.held.holds ≡ l.initial.self.held.holds;
}

abbrev pub decreases-hearing : goal.decreases-hearing
decreases-hearing g l =
    length (body_of l.first (g.L.Line.input l.initial.line).held.octets) - length l.self.answer.items
