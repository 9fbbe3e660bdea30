use Rattle.gw_records.specs.Streams.{at_most, HadRoom}
use Rattle.std.proofs.Common.{◌≡◌, ◌+◌, ◌<◌, ◌≤◌, length}
use Rattle.gw_filter.proofs.Stages.{Stage}
use Rattle.gw_filter.proofs.through.octets_through.Given as goal

-- What the filter returned for all that was read is written.
abbrev pub invariant-reading : goal.invariant-reading
invariant-reading g l = record {
  stage : Stage g.F.BufferFilter.has_returned (g.S.Source.tells l.initial.source) (g.S.Source.tells l.source)
      (g.K.Sink.tells l.initial.sink) (g.K.Sink.tells l.sink) l.filter;
  counted : l.octets ≡ at_most (length stage.given);
  room : length l.buffer ≡ 32768;
  had : 0 < l.turn → HadRoom (g.S.Source.was_offered l.source);
  turns : l.turn ≤ length stage.given;
  calls : (g.S.Source.tells l.source).reads ≡ (g.S.Source.tells l.initial.source).reads + l.turn;
}
