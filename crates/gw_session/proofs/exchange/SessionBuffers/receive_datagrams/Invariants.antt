use Rattle.gw_session.proofs.Common.{◌≡◌, ℕ, List, length, Some, of_circuit, coming, Receiving, RecordsBehind}
use Rattle.gw_session.proofs.Common.{state_with, packets_held, taping, AreShown}
use Rattle.gw_session.proofs.exchange.SessionBuffers.receive_datagrams.Given as goal

abbrev pub invariant-receiving : goal.invariant-receiving
invariant-receiving g l = record {
  receiving : (came : List (List ℕ)) × (length came ≡ l._turn)
      × Receiving (state_with l.initial.self.held.holds (packets_held l.initial.self.held.packets.items)
      (g.O.PacketPorts.tells l.initial.packet_ports) l.initial.gateway l.initial.self.totals)
      (state_with l.initial.self.held.holds (packets_held l.initial.self.held.packets.items)
      (g.O.PacketPorts.tells l.packet_ports) l.gateway l.self.totals) l.circuit came
      × RecordsBehind (taping (g.T.Tape.tells l.initial.observers.tape) l.initial.self.batch.items)
      (taping (g.T.Tape.tells l.observers.tape) l.self.batch.items) l.heard l.initial.self.recorded l.self.recorded
      (coming (of_circuit (Some l.circuit) came))
      × AreShown g.W.Watch.shows l.initial.gateway l.initial.observers.watch l.observers.watch (length l.heard)
      (coming (of_circuit (Some l.circuit) came));
  others : l.self ≡ record l.initial.self {
    totals = l.self.totals;
    recorded = l.self.recorded;
    batch = l.self.batch;
    room = l.self.room;
  };
}
