-- The octets of a saved circuit. Its law and its configuration are not among them: a circuit that is loaded
-- has its own.
use Rattle.std.specs.Prelude.{ℕ, List, ◌∷◌, ◌++◌, ◌<◌, ◌^◌, length}
use Rattle.saved_octets.specs.Numbers.{two_octets, four_octets}
use Rattle.g726_codec.specs.declared.CodecKind.{CodecKind}
use Rattle.g726_codec.specs.declared.CodecKind.TheVariants.{G711, G16, G24, G32, G40}
use Rattle.g726_codec.specs.Kinds.{CodecState}
use Rattle.g726_codec.specs.Saved.{saved_codec, CodecFits}
use Rattle.rtp_playout.specs.Saved.{saved_playout, StreamFits}
use Rattle.q421_line.specs.Saved.{saved_line, LineFits}
use Rattle.gw_circuit.specs.declared.speech.Speech.{Speech}
use Rattle.gw_circuit.specs.declared.circuit.Circuit.{Circuit}

-- the number of a kind, in the order of the variants
abbrev pub kind_number : CodecKind → ℕ
kind_number G711 = 0
kind_number G16 = 1
kind_number G24 = 2
kind_number G32 = 3
kind_number G40 = 4

-- a codec with its payload type
abbrev pub saved_coding : CodecKind → ℕ → CodecState → List ℕ
saved_coding kind payload_type codec = kind_number kind ∷ payload_type ∷ saved_codec codec

-- the words of the packet that is not full yet: how many they are, then each
abbrev pub saved_packet : List ℕ → List ℕ
saved_packet words = length words ∷ words

-- the codec, the words that are to be sent, and those that are to be played
unfoldable pub saved_speech : Speech → List ℕ
saved_speech s =
    saved_coding s.kind s.payload_type s.coder.codec ++ saved_packet s.coder.packet ++ saved_playout s.playout

-- the sample clock, and the sequence number of the next datagram
abbrev pub saved_clocks : ℕ → ℕ → List ℕ
saved_clocks clock sequence = four_octets clock ++ two_octets sequence

-- the datagrams that were sent, received and dropped
abbrev pub saved_counts : ℕ → ℕ → ℕ → List ℕ
saved_counts sent received dropped = four_octets sent ++ four_octets received ++ four_octets dropped

abbrev pub saved_numbers : Circuit → List ℕ
saved_numbers c = saved_clocks c.clock c.sequence ++ saved_counts c.sent_count c.received c.dropped

-- the numbers, the line, the speech
unfoldable pub saved_circuit : Circuit → List ℕ
saved_circuit c = saved_numbers c ++ saved_line c.line ++ saved_speech c.speech

-- the variables of the codec have their ranges and the numbers of the stream 32 bits, as in every circuit
pub record SpeechFits (s : Speech) : Type 0 where
  pub codec : CodecFits s.coder.codec
  pub stream : StreamFits s.playout.stream

-- each number has its width, as in every circuit
pub record NumbersFit (c : Circuit) : Type 0 where
  pub clock : c.clock < 2 ^ 32
  pub sequence : c.sequence < 2 ^ 16
  pub sent_count : c.sent_count < 2 ^ 32
  pub received : c.received < 2 ^ 32
  pub dropped : c.dropped < 2 ^ 32

pub record CircuitFits (c : Circuit) : Type 0 where
  pub numbers : NumbersFit c
  pub line : LineFits c.line
  pub speech : SpeechFits c.speech
