-- The names that most modules of this crate cite, passed on from one place. Declares nothing.
pub use Rattle.byteorder.specs.Endian.{big_bytes}
pub use Rattle.gw_circuit.specs.Items.{Datagram, Command, Codec, Answers, Obeys, Changes}
pub use Rattle.gw_circuit.specs.declared.Dropped.{Dropped}
pub use Rattle.gw_records.proofs.Sessions.{five, goes_up, starts, first_held, record_taken, stops_in, stops_behind}
pub use Rattle.gw_records.proofs.Sessions.{reads_more, ended, gives_up, ends_so, Stage}
pub use Rattle.gw_records.proofs.Writes.{Appends-none, TakesAllButWaiting-join, AppendsPrefix-behind}
pub use Rattle.gw_records.proofs.Writes.{TakesAllButWaiting-same, AppendsPrefix-same, TakesAllButWaiting-appended}
pub use Rattle.gw_records.proofs.Writes.{TakesAllButWaiting-empty, Appends-join, AppendsBut-behind}
pub use Rattle.gw_records.proofs.Writes.{TakesAllButWaiting-start, TakesAllButWaiting-none, AppendsBut-same}
pub use Rattle.gw_records.proofs.Writes.{AppendsBut-more, AppendsPrefix-join, FailsAfterPrefix-waiting}
pub use Rattle.gw_records.specs.Outcome.{SessionTo, EndsAll, EndsUntil, OrNoMemory, nothing_counted}
pub use Rattle.gw_records.specs.Ports.{counted, PortsState, PortCall, Extends, KeepsReceives, Waiting, TakesOut}
pub use Rattle.gw_records.specs.Ports.{NoneWaits, KeepsSends}
pub use Rattle.gw_records.specs.Reader.{held, work_left}
pub use Rattle.gw_records.specs.Records.{Record, IsGood, record_at, named, record_of, spelled, Reads}
unfoldable pub use Rattle.gw_records.specs.Records.{end_of, has_bad_kind, has_bad_circuit, has_bad_length, is_cut}
unfoldable pub use Rattle.gw_records.specs.Records.{has_bad_command}
pub use Rattle.gw_records.specs.Streams.{TakesAllButWaiting, at_most, Puts, SinkState, FailsAfterPrefix, AppendsBut}
pub use Rattle.gw_records.specs.Streams.{AppendsPrefix, SourceState}
pub use Rattle.gw_records.specs.declared.outcome.RunFault.{RunFault}
pub use Rattle.gw_records.specs.declared.outcome.Totals.{Totals}
pub use Rattle.gw_records.specs.declared.records.AcceptedKinds.{AcceptedKinds}
pub use Rattle.gw_session.specs.Answers.{Written, written_out, code_of, answers, trunk_in, datagrams_in, octets_in}
pub use Rattle.gw_session.specs.Answers.{packets_in, events_of, events, answered, as_record, render, packet_in}
pub use Rattle.gw_session.specs.Answers.{sent_with}
pub use Rattle.gw_session.specs.Exchange.{TakesEvent, Exchanges, ActsOn, Inputs, written_by, StopsAt, CutTrace}
pub use Rattle.gw_session.specs.Exchange.{InputTrace, WatchedTrace, ComesInTurn, GoToPorts, OctetTrace, HearsOctet, body_of}
pub use Rattle.gw_session.specs.Hearing.{CallsSo, HearsOn, HeardSo, IsPaused, calls_so}
pub use Rattle.gw_session.specs.Exchange.{PacketWriteError, TraceToWriteError, AreShown, IsSilent, packets_held}
pub use Rattle.gw_session.specs.Exchange.{Receiving, RecordsBehind, IsGiven, FourCome, IsToldFirst, TookBut}
unfoldable pub use Rattle.gw_session.specs.Exchange.{spelled_for, written_for}
pub use Rattle.gw_session.specs.PacketPorts.{PacketOutput, in_record, no_ports, silent}
pub use Rattle.gw_session.specs.RecordingLaws.{all_answers, answers_to, command_in, RecordingsAnswerAlike}
pub use Rattle.gw_session.specs.RecordingLaws.{RecordingsAreReadBack, RecordedSessionsRunAlike}
pub use Rattle.gw_session.specs.Running.{all_kinds, replies_to, is_refusal, trunk_octets, run_totals, RunsThrough}
pub use Rattle.gw_session.specs.Running.{AreFirst, RunsUntilWrite}
pub use Rattle.gw_session.specs.Serve.{SessionInput, input_record, turns_of, events_in, events_of_turns, octet_of}
pub use Rattle.gw_session.specs.Serve.{packets_for, sent_with_octets, Turn, events_through, coming, arrivals}
pub use Rattle.gw_session.specs.Serve.{octets_for, written, turns, Follows, SessionTrace, events_of_turn, PortTrace}
pub use Rattle.gw_session.specs.Serve.{of_circuit, behind_four, FirstFour, first_four, Stop, StopsSo, last_receive}
pub use Rattle.gw_session.specs.Serve.{LeavesOut, SessionStreams, Served, ServesAll, ServesUntil, InTurn, served_kinds}
pub use Rattle.gw_session.specs.Serve.{IsFew, ComeFirst, IsStopped, GatewayTrace, TurnsTrace, receives_in, send_of}
pub use Rattle.gw_session.specs.Serve.{packets_of, AreSends, AreCalls, AreCallsFor, are_held, HaveCalls}
pub use Rattle.gw_session.specs.Serve.{AreActs, StandsBehind, OfFirstInputs}
unfoldable pub use Rattle.gw_session.specs.Serve.{answer_to, dropped_for, given_by, but_last}
pub use Rattle.gw_session.specs.ServeLaws.{ServingIsCutAnywhere, UnmovedCounts, without_datagrams, EventsAreTold}
pub use Rattle.gw_session.specs.ServeLaws.{DatagramsAreInTurn}
pub use Rattle.gw_session.specs.Tape.{TapeState, Recorded, RecordedBut, HasEnded, HasLong, WritesRecords, Taping}
pub use Rattle.gw_session.specs.Tape.{taping, Batches, RecordsAll, Act, Learns, answers_at, keeps_at}
pub use Rattle.gw_session.specs.Tape.{Gone, gone_to}
pub use Rattle.gw_session.specs.Watch.{Shows, Look, IsCalled, IsCodeAfter, AreTrue, Watched, InputsShown, RecordsShown}
pub use Rattle.gw_session.specs.Watch.{OfFirst}
unfoldable pub use Rattle.gw_session.specs.Watch.{looks_at}
pub use Rattle.gw_records.specs.Line.{Output}
pub use Rattle.gw_session.specs.World.{World, state_of, SessionState, output_of, state_with, state_in}
pub use Rattle.gw_session.specs.World.{world_in, world_with}
pub use Rattle.gw_switch.specs.Events.{Event, octets}
unfoldable pub use Rattle.gw_switch.specs.Standing.{HasHistory}
pub use Rattle.gw_switch.specs.Whole.{reply_to, Reply, whole_from, Sending, octet_reply, next_circuit, datagram_reply}
pub use Rattle.gw_switch.specs.Whole.{sending_in}
pub use Rattle.gw_switch.specs.declared.GatewayConfig.{GatewayConfig}
pub use Rattle.gw_switch.specs.declared.gateway.Gateway.{Gateway}
pub use Rattle.std.proofs.Common.{◌≡◌, inl, ◌+◌, ◌-◌, ◌^◌, ◌<◌, ℕ, min, List, [], ◌∷◌, ◌++◌, length, Result, Ok, Err}
pub use Rattle.std.proofs.Common.{refl, sym, ap, ◌∙◌, append_assoc, arith, append-nil, map, flat_map, ◌⊎◌, inr, ◌≤◌}
pub use Rattle.std.proofs.Common.{zero, suc, Option, take, drop, length-append, IfErr, get_or, None, Some, Bool, true}
pub use Rattle.std.proofs.Common.{false, ◌==◌, cond, count_by, take_all, take_at, add-zero, OnOk, is_err, zero-add}
pub use Rattle.std.proofs.Common.{take-append-drop, rules}
pub use Rattle.std.proofs.lemmas.Grind.{common_steps}
pub use Rattle.std.proofs.lemmas.List.{length-map, map_push, flat_map_more, drop-take, drop_at, map-append, length-take}
pub use Rattle.std.proofs.lemmas.List.{take_more, drop-append-le, append_cancel_left, drop_all, take_rest}
pub use Rattle.std.proofs.lemmas.List.{nil_from_length}
pub use Rattle.std.proofs.lemmas.List.Concat.{flat_map-append}
pub use Rattle.std.proofs.lemmas.Result.{IfOk-weaker, IfErr-weaker, err_from_is_err_and}
pub use Rattle.std.specs.Io.KnownBytes.{Appends}
pub use Rattle.std.specs.List.{AllByRecursion}
pub use Rattle.std.specs.Prelude.{IfOk, replicate, MatchResult, if◌then◌else◌, nat_le, ◌&&◌}
