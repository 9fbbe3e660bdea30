-- A codec whose decoder is ahead of the words that were played.
use Rattle.std.specs.Prelude.{◌≡◌, ◌≢◌, ◌<◌, ◌≤◌, ◌^◌, ℕ, List, take, length, All, if◌then◌else◌, nat_lt}
use Rattle.g726_codec.specs.Codec.{Variables}
use Rattle.g726_codec.specs.declared.CodecKind.TheVariants.{G711}
use Rattle.g726_codec.specs.Kinds.{CodecState, bits_of, rate_tables, octets_by, after_by}
use Rattle.g726_lanes.specs.Bundles.{lane_octets, lane_words}
use Rattle.g726_lanes.specs.States.{variables}
use Rattle.g726_lanes.specs.declared.bundle.Bundle.{Bundle}

-- a codec whose decoder went on from a state by sixteen words, of which this many were played: as if it had
-- decoded these alone
abbrev pub as_played : CodecState → Variables → List ℕ → ℕ → CodecState
as_played codec base words played = record codec {
  decoder = if nat_lt played (length words) then after_by (rate_tables codec.kind) base (take played words)
      else codec.decoder;
}

-- a decoder that went on from a state by words, which had these octets
pub record IsAhead (codec : CodecState) (base : Variables) (words octets : List ℕ) : Type 0 where
  pub kind : codec.kind ≢ G711
  pub fit : All (λ word. word < 2 ^ bits_of codec.kind) words
  pub decoder : codec.decoder ≡ after_by (rate_tables codec.kind) base words
  pub decoded : octets ≡ octets_by (rate_tables codec.kind) codec.law base words

-- the first of these are its words and octets, and some of them were played
pub record IsKeptAhead (codec : CodecState) (base : Variables) (words octets : List ℕ)
    (known played : ℕ) : Type 0 where
  pub few : known ≤ 32
  pub ahead : played < known → IsAhead codec base (take known words) (take known octets)

-- a codec whose decoder is in a lane of a bundle
pub record IsDecoderInLane (c : CodecState) (b : Bundle) (k : ℕ) : Type 0 where
  pub law : c.law ≡ b.law
  pub kind : c.kind ≡ b.kind
  pub decoder : c.decoder ≡ variables b.lanes k

-- the words and the octets of a lane are a codec's next ones, and its state that behind them
pub record IsDecodedInLane (c : CodecState) (b : Bundle) (k : ℕ) : Type 0 where
  pub fit : All (λ word. word < 2 ^ bits_of c.kind) (lane_words b k)
  pub octets : lane_octets b k ≡ octets_by (rate_tables c.kind) c.law c.decoder (lane_words b k)
  pub state : variables b.lanes k ≡ after_by (rate_tables c.kind) c.decoder (lane_words b k)
