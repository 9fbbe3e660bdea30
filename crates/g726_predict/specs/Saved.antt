-- The octets of a saved predictor. SEZ and SE are not among them: they are computed from the others.
use Rattle.std.specs.Prelude.{ℕ, ◌≡◌, ◌≤◌, List, [], ◌∷◌, ◌++◌, length, map, flat_map, All, FitsSigned}
use Rattle.std.specs.Int.{cast_unsigned, w16}
use Rattle.saved_octets.specs.Numbers.{flag_octet, two_octets}
use Rattle.g726_predict.specs.Float.{FloatWord}
use Rattle.g726_predict.specs.Predictor.{Prediction}
use Rattle.g726_predict.specs.Words.{packed}

-- a word in floating form as an 11-bit number
abbrev pub word_number : FloatWord → ℕ
word_number w = packed w.negative w.exponent w.mantissa

-- B1 to B6, A1 and A2 in two's complement, then DQ1 to DQ6, SR1 and SR2
abbrev pub saved_numbers : Prediction → List ℕ
saved_numbers s = map (cast_unsigned w16) (s.b ++ s.a1 ∷ s.a2 ∷ []) ++ map word_number (s.dq ++ s.sr)

-- these in two octets each, then PK1 and PK2
unfoldable pub saved_prediction : Prediction → List ℕ
saved_prediction s = flat_map two_octets (saved_numbers s) ++ flag_octet s.pk1 ∷ flag_octet s.pk2 ∷ []

-- EXP has four bits, and MANT has six
abbrev pub WordFits : FloatWord → Type 0
WordFits w = (w.exponent ≤ 15) × (w.mantissa ≤ 63)

-- each variable is there and fits its width, as in every predictor
pub record PredictionFits (s : Prediction) : Type 0 where
  pub b_count : length s.b ≡ 6
  pub b : All (FitsSigned w16) s.b
  pub a1 : FitsSigned w16 s.a1
  pub a2 : FitsSigned w16 s.a2
  pub dq_count : length s.dq ≡ 6
  pub dq : All WordFits s.dq
  pub sr_count : length s.sr ≡ 2
  pub sr : All WordFits s.sr
