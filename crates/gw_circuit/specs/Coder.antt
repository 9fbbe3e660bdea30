-- A codec with the packet that it fills.
use Rattle.std.specs.Prelude.{◌≡◌, ℕ, List, [], ◌∷◌, ◌++◌, take, drop}
use Rattle.g726_codec.specs.Kinds.{CodecState, rate_tables, word_by, words_by, after_by, after_encoding}
use Rattle.g726_codec.specs.Kinds.{codec_after}
use Rattle.g726_codec.specs.Codec.{Variables}
use Rattle.g726_codec.specs.declared.CodecKind.{CodecKind}
use Rattle.e1_g711.specs.declared.Law.{Law}
use Rattle.g726_lanes.specs.Bundles.{lane_octets}
use Rattle.g726_lanes.specs.States.{variables}
use Rattle.g726_lanes.specs.declared.bundle.Bundle.{Bundle}

-- a codec, and the words of the packet that is not full yet
pub record CodedPacket : Type 0 where
  pub codec : CodecState
  pub packet : List ℕ

-- the next word of a codec, and its next words
abbrev pub next_word : CodecState → ℕ → ℕ
next_word c octet = word_by (rate_tables c.kind) c.law c.encoder octet

abbrev pub next_words : CodecState → List ℕ → List ℕ
next_words c octets = words_by (rate_tables c.kind) c.law c.encoder octets

-- with a word more
abbrev pub with_word : CodedPacket → ℕ → CodedPacket
with_word c word = record { codec = after_encoding c.codec (word ∷ []); packet = c.packet ++ word ∷ [] }

-- at reset, with no word
abbrev pub empty_packet : Law → CodecKind → CodedPacket
empty_packet law kind = record { codec = codec_after law kind [] []; packet = [] }

-- this many words, and behind them octets that the codec has still to code: as if it had
abbrev pub as_coded : CodecState → List ℕ → ℕ → CodedPacket
as_coded codec items count =
    let later = next_words codec (drop count items) in
    record { codec = after_encoding codec later; packet = take count items ++ later }

-- a packet whose last words are those of these octets, from this state of its encoder
pub record IsWork (c : CodedPacket) (kind : CodecKind) (law : Law) (s : Variables)
    (octets : List ℕ) : Type 0 where
  pub front : List ℕ
  pub packet : c.packet ≡ front ++ words_by (rate_tables kind) law s octets
  pub encoder : c.codec.encoder ≡ after_by (rate_tables kind) s (words_by (rate_tables kind) law s octets)

-- a packet whose last words are these, and this the state of its encoder after them
pub record IsDone (c : CodedPacket) (s : Variables) (words : List ℕ) : Type 0 where
  pub front : List ℕ
  pub packet : c.packet ≡ front ++ words
  pub encoder : c.codec.encoder ≡ s

-- the same of a lane of a bundle
abbrev pub IsInLane : CodedPacket → Bundle → ℕ → Type 0
IsInLane c b k = IsWork c b.kind b.law (variables b.lanes k) (lane_octets b k)

abbrev pub IsCodedInLane : CodedPacket → Bundle → ℕ → Type 0
IsCodedInLane c b k = IsDone c (variables b.lanes k) (lane_octets b k)
