-- Octets and words that come after others, for a codec of any kind.
use Rattle.std.proofs.Common.{◌≡◌, ◌<◌, ◌+◌, refl, ap, ◌∙◌, ℕ, zero, suc, Option, Some, None, List, [], ◌∷◌, ◌++◌, take}
use Rattle.std.proofs.Common.{length, arith}
use Rattle.std.specs.Prelude.{slice_index}
use Rattle.std.proofs.lemmas.List.{take_more}
use Rattle.e1_g711.specs.declared.Law.{Law}
use Rattle.g726_quant.specs.Tables.{RateTables}
use Rattle.g726_codec.specs.Codec.{Variables, at_reset, stepped}
use Rattle.g726_codec.specs.Kinds.{rate_tables, word_by, octet_by, words_by, octets_by, after_by, enc, dec, CodecState}
use Rattle.g726_codec.specs.Kinds.{encoder_after, decoder_after, codec_after, after_encoding, after_decoding}
use Rattle.g726_codec.specs.declared.CodecKind.{CodecKind}
use Rattle.g726_codec.specs.Laws.{EncodersContinue, DecodersContinue, HistoriesContinue}
use Rattle.g726_codec.proofs.Histories.{next_words, next_encoder, next_octets, next_decoder, words_more, after_more}
use Rattle.g726_codec.proofs.Lists.{words_by_counted}

-- by the tables, if any: the words of one octet, from its word
pub words_of_one : (t : Option RateTables) (law : Law) (s : Variables) (octet word : ℕ) → word ≡ word_by t law s octet
    → word ∷ [] ≡ words_by t law s (octet ∷ [])
words_of_one None law s octet word e = ap (λ (w : ℕ). w ∷ []) e
words_of_one (Some r) law s octet word e = ap (λ (w : ℕ). w ∷ []) e

-- so an encoder continues what it coded
pub encoders_continue : (t : Option RateTables) (law : Law) (s : Variables) → EncodersContinue t law s
encoders_continue None law s = record {
  words = words_more None law s;
  states = after_more None s;
  counted = words_by_counted None law s;
  one = λ octet. refl;
  none = (refl, refl);
}
encoders_continue (Some r) law s = record {
  words = words_more (Some r) law s;
  states = after_more (Some r) s;
  counted = words_by_counted (Some r) law s;
  one = λ octet. refl;
  none = (refl, refl);
}

-- the octet of a word among others
octet_among : (t : Option RateTables) (law : Law) (s : Variables) (words : List ℕ) (i : ℕ) → i < length words
    → slice_index (octets_by t law s words) i ≡ octet_by t law (after_by t s (take i words)) (slice_index words i)
octet_among None law s [] i h = absurd (omega (arith, h))
octet_among None law s (word ∷ words) zero h = refl
octet_among None law s (word ∷ words) (suc i) h = octet_among None law s words i (omega (arith, h))
octet_among (Some r) law s [] i h = absurd (omega (arith, h))
octet_among (Some r) law s (word ∷ words) zero h = refl
octet_among (Some r) law s (word ∷ words) (suc i) h =
    octet_among (Some r) law (stepped r s word) words i (omega (arith, h))

-- the state after a word among others
after_among : (t : Option RateTables) (s : Variables) (words : List ℕ) (i : ℕ) → i < length words
    → after_by t s (take (i + 1) words) ≡ after_by t (after_by t s (take i words)) (slice_index words i ∷ [])
after_among t s words i h =
    ap (after_by t s) (take_more words i 0 h) ∙ after_more t s (take i words) (slice_index words i ∷ [])

-- no words leave a state as it is
after_no_words : (t : Option RateTables) (s : Variables) → after_by t s [] ≡ s
after_no_words None s = refl
after_no_words (Some r) s = refl

-- so a decoder continues what it decoded
pub decoders_continue : (t : Option RateTables) (law : Law) (s : Variables) → DecodersContinue t law s
decoders_continue t law s = record {
  octets = octet_among t law s;
  states = after_among t s;
  none = after_no_words t s;
}

-- the octets of one word, from its octet
pub octets_of_one : (t : Option RateTables) (law : Law) (s : Variables) (word octet : ℕ) → octet ≡ octet_by t law s word
    → octet ∷ [] ≡ octets_by t law s (word ∷ [])
octets_of_one None law s word octet e = ap (λ (o : ℕ). o ∷ []) e
octets_of_one (Some r) law s word octet e = ap (λ (o : ℕ). o ∷ []) e

-- the states after none
after_none : (t : Option RateTables) (law : Law)
    → (at_reset ≡ after_by t at_reset (words_by t law at_reset [])) × (at_reset ≡ after_by t at_reset [])
after_none None law = (refl, refl)
after_none (Some r) law = (refl, refl)

-- a codec at reset is one after no octets and no words
pub reset_stands : (law : Law) (kind : CodecKind)
    → record { law = law; kind = kind; encoder = at_reset; decoder = at_reset } ≡ codec_after law kind [] []
unfolding encoder_after decoder_after
reset_stands law kind =
    let none = after_none (rate_tables kind) law in
    let with_encoder : Variables → CodecState =
    λ s. record { law = law; kind = kind; encoder = s; decoder = at_reset } in
    let with_decoder : Variables → CodecState =
    λ s. record { law = law; kind = kind; encoder = encoder_after law kind []; decoder = s } in
    ap with_encoder none.0 ∙ ap with_decoder none.1

-- a codec with a history gives the words of the next octets, and then has the longer one
pub after_octets : (law : Law) (kind : CodecKind) (given words octets coded : List ℕ)
    → coded ≡ words_by (rate_tables kind) law (encoder_after law kind given) octets
    → (enc law kind (given ++ octets) ≡ enc law kind given ++ coded)
    × (after_encoding (codec_after law kind given words) coded ≡ codec_after law kind (given ++ octets) words)
unfolding enc encoder_after
after_octets law kind given words octets coded e =
    let with : Variables → CodecState =
    λ s. record { law = law; kind = kind; encoder = s; decoder = decoder_after kind words } in (
      next_words (rate_tables kind) law given octets _ coded refl e,
      ap with (next_encoder (rate_tables kind) law given octets _ _ coded refl e refl),
    )

-- it gives the octets of the next words, and then has the longer one
pub after_words : (law : Law) (kind : CodecKind) (octets given words coded : List ℕ)
    → coded ≡ octets_by (rate_tables kind) law (decoder_after kind given) words
    → (dec law kind (given ++ words) ≡ dec law kind given ++ coded)
    × (after_decoding (codec_after law kind octets given) words ≡ codec_after law kind octets (given ++ words))
unfolding dec decoder_after
after_words law kind octets given words coded e =
    let with : Variables → CodecState =
    λ s. record { law = law; kind = kind; encoder = encoder_after law kind octets; decoder = s } in (
      next_octets (rate_tables kind) law given words _ coded refl e,
      ap with (next_decoder (rate_tables kind) given words _ _ refl refl),
    )

-- so a codec continues what it coded
pub histories_continue : (law : Law) (kind : CodecKind) (octets words : List ℕ)
    → HistoriesContinue law kind octets words
histories_continue law kind octets words = record {
  encodes = λ octet word e. after_octets law kind octets words (octet ∷ []) (word ∷ [])
      (words_of_one (rate_tables kind) law (encoder_after law kind octets) octet word e);
  decodes = λ word octet e. after_words law kind octets words (word ∷ []) (octet ∷ [])
      (octets_of_one (rate_tables kind) law (decoder_after kind words) word octet e);
}
