-- Octets and words that come after others, at a rate and in ITU-T G.711.
use Rattle.std.proofs.Common.{◌≡◌, refl, ap, ℕ, Option, Some, None, List, [], ◌∷◌, ◌++◌}
use Rattle.e1_g711.specs.declared.Law.{Law}
use Rattle.e1_g711.specs.Samples.{expand}
use Rattle.g726_quant.specs.Tables.{RateTables}
use Rattle.g726_codec.specs.Codec.{Variables, at_reset, word_for, stepped, sync, words_from, octets_from, state_after}
use Rattle.g726_codec.specs.Kinds.{words_by, octets_by, after_by}

-- the words of later octets are those from the state after the words before
pub words_from_more : (r : RateTables) (law : Law) (s : Variables) (octets later : List ℕ)
    → words_from r law s (octets ++ later)
    ≡ words_from r law s octets ++ words_from r law (state_after r s (words_from r law s octets)) later
words_from_more r law s [] later = refl
words_from_more r law s (octet ∷ octets) later =
    let word = word_for r s (expand law octet) in
    ap (λ (rest : List ℕ). word ∷ rest) (words_from_more r law (stepped r s word) octets later)

-- the octets of later words are those from the state after the words before
pub octets_from_more : (r : RateTables) (law : Law) (s : Variables) (words later : List ℕ)
    → octets_from r law s (words ++ later)
    ≡ octets_from r law s words ++ octets_from r law (state_after r s words) later
octets_from_more r law s [] later = refl
octets_from_more r law s (word ∷ words) later =
    ap (λ (rest : List ℕ). sync r law s word ∷ rest) (octets_from_more r law (stepped r s word) words later)

-- the state after later words is that from the state after the words before
pub state_after_more : (r : RateTables) (s : Variables) (words later : List ℕ)
    → state_after r s (words ++ later) ≡ state_after r (state_after r s words) later
state_after_more r s [] later = refl
state_after_more r s (word ∷ words) later = state_after_more r (stepped r s word) words later

-- the same by the tables, if any
pub words_more : (t : Option RateTables) (law : Law) (s : Variables) (octets later : List ℕ)
    → words_by t law s (octets ++ later)
    ≡ words_by t law s octets ++ words_by t law (after_by t s (words_by t law s octets)) later
words_more None law s octets later = refl
words_more (Some r) law s octets later = words_from_more r law s octets later

-- the octets, by the tables
pub octets_more : (t : Option RateTables) (law : Law) (s : Variables) (words later : List ℕ)
    → octets_by t law s (words ++ later) ≡ octets_by t law s words ++ octets_by t law (after_by t s words) later
octets_more None law s words later = refl
octets_more (Some r) law s words later = octets_from_more r law s words later

-- the state, by the tables
pub after_more : (t : Option RateTables) (s : Variables) (words later : List ℕ)
    → after_by t s (words ++ later) ≡ after_by t (after_by t s words) later
after_more None s words later = refl
after_more (Some r) s words later = state_after_more r s words later

-- an encoder with a history gives the words of the next octets, and then has the longer one
pub next_words : (t : Option RateTables) (law : Law) (given octets : List ℕ) (old : Variables) (words : List ℕ)
    → old ≡ after_by t at_reset (words_by t law at_reset given) → words ≡ words_by t law old octets
    → words_by t law at_reset (given ++ octets) ≡ words_by t law at_reset given ++ words
next_words t law given octets old words e f = rw (words_more t law at_reset given octets, ← e, ← f) refl

-- and then has the longer one
pub next_encoder : (t : Option RateTables) (law : Law) (given octets : List ℕ) (old new : Variables) (words : List ℕ)
    → old ≡ after_by t at_reset (words_by t law at_reset given) → words ≡ words_by t law old octets
    → new ≡ after_by t old words → new ≡ after_by t at_reset (words_by t law at_reset (given ++ octets))
next_encoder t law given octets old new words e f g =
    rw (
      next_words t law given octets old words e f,
      after_more t at_reset (words_by t law at_reset given) words,
      ← e,
    ) g

-- a decoder with a history gives the octets of the next words, and then has the longer one
pub next_octets : (t : Option RateTables) (law : Law) (given words : List ℕ) (old : Variables) (octets : List ℕ)
    → old ≡ after_by t at_reset given → octets ≡ octets_by t law old words
    → octets_by t law at_reset (given ++ words) ≡ octets_by t law at_reset given ++ octets
next_octets t law given words old octets e f = rw (octets_more t law at_reset given words, ← e, ← f) refl

-- and then has the longer one
pub next_decoder : (t : Option RateTables) (given words : List ℕ) (old new : Variables)
    → old ≡ after_by t at_reset given → new ≡ after_by t old words → new ≡ after_by t at_reset (given ++ words)
next_decoder t given words old new e f = rw (after_more t at_reset given words, ← e) f
