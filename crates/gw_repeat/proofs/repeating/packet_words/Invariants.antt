use Rattle.std.proofs.Common.{◌≡◌, ◌<◌, ℕ, length, slice_index, slice_index_or}
use Rattle.gw_circuit.specs.declared.config.CircuitConfig.{CircuitConfig}
use Rattle.gw_circuit.specs.Replies.{packet_size}
use Rattle.gw_repeat.proofs.repeating.packet_words.Given as goal

-- each circuit so far has the words of its packets
abbrev pub invariant-loop-place : goal.invariant-loop-place
invariant-loop-place l = record {
  len : length l.words ≡ 30;
  each : (i : ℕ) (d : CircuitConfig) → i < l.place
      → slice_index l.words i ≡ packet_size (slice_index_or l.circuits i d);
}
