use Rattle.gw_session.proofs.Common.{◌≡◌, ◌≤◌, true, length, packets_held, state_with, taping, KeepsSends}
use Rattle.gw_session.proofs.Exchanging.{HearsUpTo}
use Rattle.gw_session.proofs.exchange.SessionBuffers.hear.Given as goal

abbrev pub invariant-loop-i : goal.invariant-loop-i
invariant-loop-i g l = record {
  heard : HearsUpTo g.W.Watch.shows l.initial.observers.watch l.observers.watch l.initial.self.holding
      g.O.PacketPorts.spells
      (state_with l.initial.self.held.holds (packets_held l.initial.self.held.packets.items)
      (g.O.PacketPorts.tells l.initial.packet_ports) l.initial.gateway l.initial.self.totals)
      (state_with l.initial.self.held.holds (packets_held l.self.held.packets.items)
      (g.O.PacketPorts.tells l.packet_ports) l.gateway l.self.totals)
      (taping (g.T.Tape.tells l.initial.observers.tape) l.initial.self.batch.items)
      (taping (g.T.Tape.tells l.observers.tape) l.self.batch.items)
      l.octets l.i l.initial.self.recorded l.self.recorded l.initial.self.answer.items l.self.answer.items;
  count : length l.self.answer.items ≡ l.i;
  order : l.self.recorded ≤ l.i;
  room : l.self.holding ≡ true → length l.self.held.packets.items ≤ l.i;
  no_sends : KeepsSends (g.O.PacketPorts.tells l.initial.packet_ports) (g.O.PacketPorts.tells l.packet_ports);
  holding : l.self.holding ≡ l.initial.self.holding;
  holds : l.self.held.holds ≡ l.initial.self.held.holds;
}
