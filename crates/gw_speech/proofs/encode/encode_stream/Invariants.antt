use Rattle.gw_speech.proofs.Common.{◌≡◌, ◌+◌, ◌<◌, ◌≤◌, [], length, IsPacket}
use Rattle.gw_records.specs.Streams.{HadRoom}
use Rattle.gw_speech.proofs.PacketLemmas.{Encoding}
use Rattle.gw_speech.proofs.encode.encode_stream.Given as goal

abbrev pub invariant-reading : goal.invariant-reading
invariant-reading g l = record {
  stage : Encoding l.spec (g.S.Source.tells l.initial.source) (g.S.Source.tells l.source)
      (g.K.Sink.tells l.initial.sink) (g.K.Sink.tells l.sink) l.codec l.held l.speech;
  kind : l.codec.kind ≡ l.spec.codec;
  at : IsPacket l.spec l.progress stage.count;
  none : l.waiting.items ≡ [];
  had : 0 < l.turn → HadRoom (g.S.Source.was_offered l.source);
  turns : l.turn ≤ length stage.given;
  calls : (g.S.Source.tells l.source).reads ≡ (g.S.Source.tells l.initial.source).reads + l.turn;
}
