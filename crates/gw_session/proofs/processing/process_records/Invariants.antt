use Rattle.gw_session.proofs.Common.{◌≡◌, ◌≤◌, List, [], ℕ, length, Record, TakesAllButWaiting, written_by}
use Rattle.gw_session.proofs.Common.{WatchedTrace, InputsShown, nothing_counted, state_in, work_left}
use Rattle.gw_session.proofs.Common.{Stage, TookBut}
use Rattle.gw_session.proofs.processing.process_records.Given as goal

abbrev pub invariant-handling : goal.invariant-handling
invariant-handling g l = (octets : List ℕ) × (records : List Record) × record {
  stage : Stage l.kinds (g.L.Line.input l.initial.line).source (g.L.Line.input l.line).source
      (g.L.Line.output l.initial.line).sink (g.L.Line.output l.line).sink (g.L.Line.input l.line).held octets records;
  through : WatchedTrace (written_by g.O.PacketPorts.spells)
      (TookBut (g.L.Line.terms l.initial.line).late (g.L.Line.output l.initial.line).sink.taken)
      (state_in l.initial.session.held.holds (g.O.PacketPorts.tells l.initial.packet_ports) l.initial.gateway
      nothing_counted)
      (state_in l.initial.session.held.holds (g.O.PacketPorts.tells l.packet_ports) l.gateway l.session.totals)
      (g.T.Tape.tells l.initial.observers.tape) (g.T.Tape.tells l.observers.tape)
      (λ first xs. TakesAllButWaiting (g.L.Line.output l.initial.line).sink.taken (g.L.Line.output l.line).sink.taken
      (g.L.Line.output l.line).waiting xs)
      (λ inputs. InputsShown g.W.Watch.shows l.initial.gateway l.initial.observers.watch l.observers.watch inputs []) records;
  none_waits : length records ≡ 0 → length (g.L.Line.output l.line).waiting ≡ 0;
  few : length (g.L.Line.output l.line).waiting ≤ (g.L.Line.terms l.initial.line).late;
  terms : g.L.Line.terms l.line ≡ g.L.Line.terms l.initial.line;
  holds : l.session.held.holds ≡ l.initial.session.held.holds;
}

abbrev pub decreases-handling : goal.decreases-handling
decreases-handling g l = work_left (g.L.Line.input l.line).held
