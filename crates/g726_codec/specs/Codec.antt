-- The encoder and the decoder of ITU-T G.726 over whole lists.
use Rattle.std.specs.Prelude.{ℕ, ℤ, ◌+ℤ◌, ◌-ℤ◌, ◌==◌, nat_lt, List, [], ◌∷◌, if◌then◌else◌}
use Rattle.e1_g711.specs.Codes.{next_up, next_down}
use Rattle.e1_g711.specs.Samples.{compress, expand}
use Rattle.e1_g711.specs.declared.Law.{Law}
use Rattle.g726_quant.specs.Arithmetic.{signed, wrap16}
use Rattle.g726_quant.specs.Blocks.{quantised, reconstructed, word_is_negative, word_magnitude, word_order}
use Rattle.g726_quant.specs.Tables.{RateTables}
use Rattle.g726_tone.specs.Adaptation.{Adaptation, scale, trans, adapted}
use Rattle.g726_tone.specs.Adaptation as adaptation
use Rattle.g726_predict.specs.Predictor.{Prediction, se, tone, updated}
use Rattle.g726_predict.specs.Predictor as prediction

-- the variables that an encoder or a decoder keeps from sample to sample
pub record Variables : Type 0 where
  pub adaptation : Adaptation
  pub prediction : Prediction

-- their values at reset
abbrev pub at_reset : Variables
at_reset = record { adaptation = adaptation.at_reset; prediction = prediction.at_reset }

-- SUBTA: D, then LOG, SUBTB and QUAN: I, the word for a sample
abbrev pub word_for : RateTables → Variables → ℤ → ℕ
word_for r s sample = quantised r (wrap16 (sample -ℤ se s.prediction)) (scale s.adaptation)

-- ADDB: SR, the reconstructed signal
abbrev pub addb : RateTables → Variables → ℕ → ℤ
addb r s word =
    let magnitude = reconstructed r word (scale s.adaptation) in
    wrap16 (signed (word_is_negative r.bits word) magnitude +ℤ se s.prediction)

-- the state after a sample, of an encoder or a decoder: it follows from the word alone
unfoldable pub stepped : RateTables → Variables → ℕ → Variables
stepped r s word =
    let negative = word_is_negative r.bits word in
    let magnitude = reconstructed r word (scale s.adaptation) in
    let new_tone = tone s.prediction negative magnitude in
    let tr = trans s.adaptation magnitude in
    record {
      adaptation = adapted r s.adaptation (word_magnitude r.bits word) new_tone tr;
      prediction = updated r.leak s.prediction negative magnitude (addb r s word) tr;
    }

-- COMPRESS: SP, the octet of the reconstructed signal
abbrev pub sp : RateTables → Law → Variables → ℕ → ℕ
sp r law s word = compress law (addb r s word)

-- SYNC: a code stays if its word has the order of the received one (ID is IM). If ID is below IM the next
-- more positive code is returned, otherwise the next more negative one
abbrev pub adjusted : Law → ℕ → ℕ → ℕ → ℕ
adjusted law code id im =
    if id == im then code else (if nat_lt id im then next_up law code else next_down law code)

-- SYNC: SD, the octet of a word. SP, expanded and quantised again, gives the word to compare
unfoldable pub sync : RateTables → Law → Variables → ℕ → ℕ
sync r law s word =
    let code = sp r law s word in
    adjusted law code (word_order r.bits (word_for r s (expand law code))) (word_order r.bits word)

-- the words of octets, from a state
abbrev pub words_from : RateTables → Law → Variables → List ℕ → List ℕ
words_from r law s [] = []
words_from r law s (octet ∷ octets) =
    let word = word_for r s (expand law octet) in
    word ∷ words_from r law (stepped r s word) octets

-- the octets of words, from a state
abbrev pub octets_from : RateTables → Law → Variables → List ℕ → List ℕ
octets_from r law s [] = []
octets_from r law s (word ∷ words) = sync r law s word ∷ octets_from r law (stepped r s word) words

-- the state after words
abbrev pub state_after : RateTables → Variables → List ℕ → Variables
state_after r s [] = s
state_after r s (word ∷ words) = state_after r (stepped r s word) words

-- the words of an encoder from reset
unfoldable pub encoded : RateTables → Law → List ℕ → List ℕ
encoded r law octets = words_from r law at_reset octets

-- the octets of a decoder from reset
unfoldable pub decoded : RateTables → Law → List ℕ → List ℕ
decoded r law words = octets_from r law at_reset words

-- the state of a decoder after words
unfoldable pub after_words : RateTables → List ℕ → Variables
after_words r words = state_after r at_reset words

-- the state of an encoder after octets
unfoldable pub after_octets : RateTables → Law → List ℕ → Variables
after_octets r law octets = after_words r (encoded r law octets)
