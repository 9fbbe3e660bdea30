-- The variables of one circuit after a word.
use Rattle.g726_lanes.proofs.Common.{◌≡◌, ◌<◌, ℕ, ℤ, ◌+ℤ◌, Bool, List, refl, pos, negsuc, ◌≤ℤ◌, signed, wrap16, antilog}
use Rattle.g726_lanes.proofs.Common.{adda, word_magnitude, word_is_negative, RateTables, Prediction, se, tone, updated}
use Rattle.g726_lanes.proofs.Common.{Variables, addb, lanes, variables, adaptation, predictor}
use Rattle.g726_predict.proofs.LaneSums.{half_bounds}
use Rattle.g726_quant.specs.Blocks.{reconst, reconstructed}
use Rattle.g726_tone.specs.Adaptation.{Adaptation, scale, trans, adapted}
use Rattle.g726_codec.specs.Codec as codec
use Rattle.g726_lanes.proofs.Each.{lanes_at}

-- the magnitude of DQ
pub magnitude_is : (r : RateTables) (word y : ℕ) {places log magnitude : ℕ} {level : ℤ}
    → places ≡ word_magnitude r.bits word → level ≡ reconst r places → log ≡ adda level y → magnitude ≡ antilog log
    → magnitude ≡ reconstructed r word y
unfolding reconstructed
magnitude_is r word y e f g h = rw (h, g, f, e) refl

-- SR
pub signal_is : (r : RateTables) {now s : Variables} (word : ℕ) {negative : Bool} {magnitude y : ℕ} {all sr : ℤ}
    → now ≡ s → negative ≡ word_is_negative r.bits word → y ≡ scale s.adaptation → magnitude ≡ reconstructed r word y
    → all ≡ se s.prediction → sr ≡ wrap16 (signed negative magnitude +ℤ all)
    → sr ≡ addb r now word
signal_is r word is n e m a g = rw (is, g, a, m, e, n) refl

-- all variables
pub stepped_is : (r : RateTables) {now s : Variables} (word : ℕ) {negative tr new_tone : Bool}
    {places magnitude y : ℕ} {sr : ℤ} {a : Adaptation} {p : Prediction} → now ≡ s
    → places ≡ word_magnitude r.bits word → negative ≡ word_is_negative r.bits word → y ≡ scale s.adaptation
    → magnitude ≡ reconstructed r word y → sr ≡ addb r now word
    → tr ≡ trans s.adaptation magnitude → new_tone ≡ tone s.prediction negative magnitude
    → a ≡ adapted r s.adaptation places new_tone tr → p ≡ updated r.leak s.prediction negative magnitude sr tr
    → record { adaptation = a; prediction = p } ≡ codec.stepped r now word
unfolding codec.stepped
stepped_is r word is e n y m g t f a p = rw (a, p, t, f, g, m, y, n, e, is) refl

-- variables of an adaptation and a prediction
abbrev pub made : Adaptation → Prediction → Variables
made a p = record { adaptation = a; prediction = p }

-- they are the same if both are
pub made_same : {a b : Adaptation} {p q : Prediction} → a ≡ b → p ≡ q → made a p ≡ made b q
made_same e f = rw (e, f) refl

-- the variables of a circuit are those in its lane
pub is_in_lane : (a : List Adaptation) (p : List Prediction) {states : List Variables}
    → lanes (λ k. made (adaptation a k) (predictor p k)) ≡ states → (k : ℕ) → k < 8
    → variables states k ≡ made (adaptation a k) (predictor p k)
is_in_lane a p e k h = rw (← e) (lanes_at (λ k. made (adaptation a k) (predictor p k)) codec.at_reset k h)

-- an estimate has fifteen bits
pub se_low : (p : Prediction) → negsuc 16383 ≤ℤ se p
unfolding se
se_low p = (half_bounds _).0

-- and at most 16383
pub se_high : (p : Prediction) → se p ≤ℤ pos 16383
unfolding se
se_high p = (half_bounds _).1
