use Rattle.gw_speech.proofs.Common.{◌≡◌, List, ℕ, TakesAllButWaiting, work_left, holds, Record, HasDecoded, words_in}
use Rattle.gw_speech.proofs.Common.{speech_in, only_datagrams, decode_totals, Stage}
use Rattle.gw_speech.proofs.decode.decode_stream.Given as goal

abbrev pub invariant-decoding : goal.invariant-decoding
invariant-decoding g l = (octets : List ℕ) × (records : List Record) × record {
  stage : Stage only_datagrams (g.S.Source.tells l.initial.source) (g.S.Source.tells l.source)
      (g.K.Sink.tells l.initial.sink) (g.K.Sink.tells l.sink) (holds l.reader) octets records;
  passes : TakesAllButWaiting (g.K.Sink.tells l.initial.sink).taken
      (g.K.Sink.tells l.sink).taken l.under_way.waiting.items
      (speech_in l.spec records);
  stands : HasDecoded l.spec l.under_way.codec (words_in l.spec records);
  totals_are : l.under_way.totals ≡ decode_totals l.spec records;
}

abbrev pub decreases-decoding : goal.decreases-decoding
decreases-decoding g l = work_left (holds l.reader)
