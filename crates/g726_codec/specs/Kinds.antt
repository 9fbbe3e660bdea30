-- The codecs of a circuit: ITU-T G.711 itself and ITU-T G.726 at its four rates.
use Rattle.std.specs.Prelude.{ℕ, List, Option, Some, None}
use Rattle.e1_g711.specs.declared.Law.{Law}
use Rattle.e1_g711.specs.Samples.{expand}
use Rattle.g726_quant.specs.Tables.{RateTables, tables16, tables24, tables32, tables40}
use Rattle.g726_codec.specs.Codec.{Variables, at_reset, word_for, sync, words_from, octets_from, state_after}
use Rattle.g726_codec.specs.declared.CodecKind.{CodecKind}
use Rattle.g726_codec.specs.declared.CodecKind.TheVariants.{G711, G16, G24, G32, G40}

-- the bits of a word: an octet of G.711 is its own word
abbrev pub bits_of : CodecKind → ℕ
bits_of G711 = 8
bits_of G16 = 2
bits_of G24 = 3
bits_of G32 = 4
bits_of G40 = 5

-- the tables of a kind's rate. G.711 has none: its octets are their own words, and it keeps nothing
abbrev pub rate_tables : CodecKind → Option RateTables
rate_tables G711 = None
rate_tables G16 = Some tables16
rate_tables G24 = Some tables24
rate_tables G32 = Some tables32
rate_tables G40 = Some tables40

-- by the tables, if any: the word of an octet, from an encoder's variables
abbrev pub word_by : Option RateTables → Law → Variables → ℕ → ℕ
word_by None law s octet = octet
word_by (Some r) law s octet = word_for r s (expand law octet)

-- the octet of a word, from a decoder's variables
abbrev pub octet_by : Option RateTables → Law → Variables → ℕ → ℕ
octet_by None law s word = word
octet_by (Some r) law s word = sync r law s word

-- the words of octets, and the octets of words
abbrev pub words_by : Option RateTables → Law → Variables → List ℕ → List ℕ
words_by None law s octets = octets
words_by (Some r) law s octets = words_from r law s octets

abbrev pub octets_by : Option RateTables → Law → Variables → List ℕ → List ℕ
octets_by None law s words = words
octets_by (Some r) law s words = octets_from r law s words

-- the variables after words, of an encoder or a decoder
abbrev pub after_by : Option RateTables → Variables → List ℕ → Variables
after_by None s words = s
after_by (Some r) s words = state_after r s words

-- the words of octets, and the octets of words, from reset
unfoldable pub enc : Law → CodecKind → List ℕ → List ℕ
enc law kind octets = words_by (rate_tables kind) law at_reset octets

unfoldable pub dec : Law → CodecKind → List ℕ → List ℕ
dec law kind words = octets_by (rate_tables kind) law at_reset words

-- the variables of the encoder after octets, and of the decoder after words. Those of G.711 stay at reset
unfoldable pub encoder_after : Law → CodecKind → List ℕ → Variables
encoder_after law kind octets =
    after_by (rate_tables kind) at_reset (words_by (rate_tables kind) law at_reset octets)

unfoldable pub decoder_after : CodecKind → List ℕ → Variables
decoder_after kind words = after_by (rate_tables kind) at_reset words

-- a codec: its law, its kind, and the variables of its encoder and of its decoder
pub record CodecState : Type 0 where
  pub law : Law
  pub kind : CodecKind
  pub encoder : Variables
  pub decoder : Variables

-- a codec whose encoder has sent words, and one whose decoder has received words
abbrev pub after_encoding : CodecState → List ℕ → CodecState
after_encoding c words = record c { encoder = after_by (rate_tables c.kind) c.encoder words }

abbrev pub after_decoding : CodecState → List ℕ → CodecState
after_decoding c words = record c { decoder = after_by (rate_tables c.kind) c.decoder words }

-- a codec after octets to encode and words to decode, since its reset
abbrev pub codec_after : Law → CodecKind → List ℕ → List ℕ → CodecState
codec_after law kind octets words = record {
  law = law;
  kind = kind;
  encoder = encoder_after law kind octets;
  decoder = decoder_after kind words;
}
