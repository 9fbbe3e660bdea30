-- Circuits whose octets are in the lanes of a bundle.
use Rattle.std.specs.Prelude.{ℕ, ◌<◌, ◌≤◌, List, length, slice_index, slice_index_or}
use Rattle.g726_lanes.specs.declared.bundle.Bundle.{Bundle}
use Rattle.g726_lanes.specs.Bundles.{AllFit}
use Rattle.gw_circuit.specs.Ahead.{IsDecoderInLane, IsDecodedInLane}
use Rattle.gw_circuit.specs.Coder.{CodedPacket, IsInLane, IsCodedInLane}
use Rattle.gw_switch.specs.declared.circuits.BoxedCircuit.{BoxedCircuit}

-- what holds of the circuit at each of these places and of its lane, the first in lane 0
pub record EachPlace (P : CodedPacket → Bundle → ℕ → Type 0) (circuits : List BoxedCircuit) (places : List ℕ)
    (b : Bundle) : Type 0 where
  pub few : length places ≤ 8
  pub within : (k : ℕ) → k < length places → slice_index places k < 30
  pub each : (k : ℕ) (d : BoxedCircuit) → k < length places
      → P (slice_index_or circuits (slice_index places k) d).circuit.speech.coder b k

-- what each circuit has still to code is in its lane
abbrev pub AreLoaded : List BoxedCircuit → List ℕ → Bundle → Type 0
AreLoaded circuits places b = EachPlace IsInLane circuits places b

-- the words of each are
abbrev pub AreCoded : List BoxedCircuit → List ℕ → Bundle → Type 0
AreCoded circuits places b = EachPlace IsCodedInLane circuits places b

-- the decoder of each is in its lane, and what is given in each lane are words
pub record AreDecoders (circuits : List BoxedCircuit) (places : List ℕ) (b : Bundle) : Type 0 where
  pub loaded : EachPlace (λ p. IsDecoderInLane p.codec) circuits places b
  pub fit : AllFit b

-- the words of each are decoded
abbrev pub AreDecoded : List BoxedCircuit → List ℕ → Bundle → Type 0
AreDecoded circuits places b = EachPlace (λ p. IsDecodedInLane p.codec) circuits places b
