-- Laws of the codecs.
use Rattle.std.specs.Prelude.{ℕ, ◌≡◌, ◌<◌, ◌^◌, ◌+◌, Option, List, [], ◌∷◌, ◌++◌, length, take, All}
use Rattle.std.specs.Prelude.{slice_index}
use Rattle.e1_g711.specs.declared.Law.{Law}
use Rattle.g726_quant.specs.Tables.{RateTables}
use Rattle.g726_codec.specs.Codec.{Variables}
use Rattle.g726_codec.specs.Kinds.{bits_of, rate_tables, word_by, octet_by, words_by, octets_by, after_by}
use Rattle.g726_codec.specs.Kinds.{enc, dec, encoder_after, decoder_after, codec_after, after_encoding}
use Rattle.g726_codec.specs.Kinds.{after_decoding}
use Rattle.g726_codec.specs.declared.CodecKind.{CodecKind}
use Rattle.g726_codec.specs.declared.CodecKind.TheVariants.{G711}

-- one word for each octet, and one octet for each word
abbrev pub OneWordAnOctet : Type 0
OneWordAnOctet = (law : Law) (kind : CodecKind)
    → ((octets : List ℕ) → length (enc law kind octets) ≡ length octets)
    × ((words : List ℕ) → length (dec law kind words) ≡ length words)

-- each word is below 2 ^ bits
abbrev pub WordsFit : Type 0
WordsFit = (law : Law) (kind : CodecKind) (octets : List ℕ) → All (λ octet. octet < 256) octets
    → All (λ word. word < 2 ^ bits_of kind) (enc law kind octets)

-- the words of a prefix are a prefix of the words
abbrev pub PrefixesComeFirst : Type 0
PrefixesComeFirst = (law : Law) (kind : CodecKind)
    → ((octets later : List ℕ) → take (length octets) (enc law kind (octets ++ later)) ≡ enc law kind octets)
    × ((words later : List ℕ) → take (length words) (dec law kind (words ++ later)) ≡ dec law kind words)

-- the words of later octets are those from the state after the words before, and so is the state after them
pub record EncodersContinue (t : Option RateTables) (law : Law) (s : Variables) : Type 0 where
  pub words : (octets later : List ℕ) → words_by t law s (octets ++ later)
      ≡ words_by t law s octets ++ words_by t law (after_by t s (words_by t law s octets)) later
  pub states : (words later : List ℕ) → after_by t s (words ++ later) ≡ after_by t (after_by t s words) later
  pub counted : (octets : List ℕ) → length (words_by t law s octets) ≡ length octets
  pub one : (octet : ℕ) → words_by t law s (octet ∷ []) ≡ word_by t law s octet ∷ []
  pub none : (words_by t law s [] ≡ []) × (after_by t s [] ≡ s)

-- the octet of a word among others, and the state after it, are those from the state after the words before
pub record DecodersContinue (t : Option RateTables) (law : Law) (s : Variables) : Type 0 where
  pub octets : (words : List ℕ) (i : ℕ) → i < length words → slice_index (octets_by t law s words) i
      ≡ octet_by t law (after_by t s (take i words)) (slice_index words i)
  pub states : (words : List ℕ) (i : ℕ) → i < length words → after_by t s (take (i + 1) words)
      ≡ after_by t (after_by t s (take i words)) (slice_index words i ∷ [])
  pub none : after_by t s [] ≡ s

-- a codec that has coded gives the words of the next octet and the octets of the next word, and then is the
-- codec after both
pub record HistoriesContinue (law : Law) (kind : CodecKind) (octets words : List ℕ) : Type 0 where
  pub encodes : (octet word : ℕ) → word ≡ word_by (rate_tables kind) law (encoder_after law kind octets) octet
      → (enc law kind (octets ++ octet ∷ []) ≡ enc law kind octets ++ word ∷ [])
      × (after_encoding (codec_after law kind octets words) (word ∷ [])
      ≡ codec_after law kind (octets ++ octet ∷ []) words)
  pub decodes : (word octet : ℕ) → octet ≡ octet_by (rate_tables kind) law (decoder_after kind words) word
      → (dec law kind (words ++ word ∷ []) ≡ dec law kind words ++ octet ∷ [])
      × (after_decoding (codec_after law kind octets words) (word ∷ [])
      ≡ codec_after law kind octets (words ++ word ∷ []))

-- the word of an octet is below 2 ^ bits, in each state
abbrev pub EachWordFits : Type 0
EachWordFits = (law : Law) (kind : CodecKind) (s : Variables) (octet : ℕ) → octet < 256
    → word_by (rate_tables kind) law s octet < 2 ^ bits_of kind

-- no octets give no words, and no words give no octets
abbrev pub NothingIsCoded : Type 0
NothingIsCoded = (law : Law) (kind : CodecKind) → (enc law kind [] ≡ []) × (dec law kind [] ≡ [])

-- in G.711 octets are their own words, and words their own octets
abbrev pub SpeechIsItsOwnWords : Type 0
SpeechIsItsOwnWords =
    (law : Law) (octets : List ℕ) → (enc law G711 octets ≡ octets) × (dec law G711 octets ≡ octets)

-- a codec of G.711 keeps nothing
abbrev pub NothingIsKept : Type 0
NothingIsKept = (law : Law) (octets words : List ℕ)
    → codec_after law G711 octets words ≡ codec_after law G711 [] []
