use Rattle.gw_speech.proofs.Common.{◌≡◌, ◌^◌, ◌<◌, ◌++◌, ℕ, List, [], All, codec_after, TakesAllButWaiting, word_bits}
use Rattle.gw_speech.proofs.Common.{speech_behind}
use Rattle.gw_speech.proofs.decode.put_each.Given as goal

abbrev pub invariant-loop-word : goal.invariant-loop-word
invariant-loop-word g l = (done : List ℕ) × record {
  goes : (goal.iterator-loop-word g).can_next l.word-iterator;
  ends : (goal.iterator-loop-word g).is_finite l.word-iterator;
  whole : l.fn.words ≡ done ++ l.word-iterator;
  fit : All (λ w. w < 2 ^ word_bits l.spec) l.word-iterator;
  kind : l.codec.kind ≡ l.spec.codec;
  stands : (before : List ℕ) → l.initial.codec ≡ codec_after l.spec.law l.spec.codec [] before
      → l.codec ≡ codec_after l.spec.law l.spec.codec [] (before ++ done);
  passes : (before : List ℕ) → l.initial.codec ≡ codec_after l.spec.law l.spec.codec [] before
      → TakesAllButWaiting (g.K.Sink.tells l.initial.sink).taken (g.K.Sink.tells l.sink).taken l.waiting.items
      (l.initial.waiting.items ++ speech_behind l.spec before done);
  same : (g.K.Sink.tells l.sink).failures ≡ (g.K.Sink.tells l.initial.sink).failures;
}
