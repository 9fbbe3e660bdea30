-- The words of a packet of each circuit.
use Rattle.std.specs.Prelude.{◌≡◌, ◌<◌, ℕ, List, slice_index, slice_index_or}
use Rattle.gw_circuit.specs.declared.config.CircuitConfig.{CircuitConfig}
use Rattle.gw_circuit.specs.Replies.{packet_size}

-- each of circuits 1 to 30 has the words of its packets
abbrev pub HasPacketWords : List CircuitConfig → List ℕ → Type 0
HasPacketWords circuits words = (i : ℕ) (d : CircuitConfig) → i < 30
    → slice_index words i ≡ packet_size (slice_index_or circuits i d)
