use Rattle.gw_speech.proofs.Common.{◌≡◌, ◌+◌, ◌*◌, ◌^◌, ◌<◌, ℕ, length, drop, All, TakesAllButWaiting, packet_len}
use Rattle.gw_speech.proofs.Common.{word_bits, records_from, IsPacket}
use Rattle.gw_speech.proofs.encode.write_packets.Given as goal

abbrev pub invariant-packets : goal.invariant-packets
invariant-packets g l = (count : ℕ) × record {
  place : l.rest ≡ drop (packet_len l.spec * count) l.fn.words;
  whole : length l.fn.words ≡ packet_len l.spec * count + length l.rest;
  fit : All (λ w. w < 2 ^ word_bits l.spec) l.rest;
  next : (k : ℕ) → IsPacket l.spec l.initial.progress k → IsPacket l.spec l.progress (k + count);
  passes : (k : ℕ) → IsPacket l.spec l.initial.progress k
      → TakesAllButWaiting (g.K.Sink.tells l.initial.sink).taken (g.K.Sink.tells l.sink).taken
      l.waiting.items (records_from l.spec k l.fn.words count);
  same : (g.K.Sink.tells l.sink).failures ≡ (g.K.Sink.tells l.initial.sink).failures;
}

abbrev pub decreases-packets : goal.decreases-packets
decreases-packets g l = length l.rest
