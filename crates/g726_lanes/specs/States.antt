-- The states of eight circuits.
use Rattle.std.specs.Prelude.{ℕ, ◌+◌, ◌*◌, ◌≤◌, ◌<◌, ◌≡◌, pos, List, slice_index_or}
use Rattle.g726_tone.specs.Adaptation.{Adaptation, mix, lima}
use Rattle.g726_tone.specs.Adaptation as adaptations
use Rattle.g726_codec.specs.Codec.{Variables}
use Rattle.g726_codec.specs.Codec as codec
use Rattle.g726_lanes.specs.Lanes.{lane, number, EachLane}
use Rattle.g726_predict.specs.Predictor.{Prediction, sez, se}
use Rattle.g726_predict.specs.Predictor as predictions

-- the predictor of a circuit
abbrev pub predictor : List Prediction → ℕ → Prediction
predictor states k = slice_index_or states k predictions.at_reset

-- the adaptation of a circuit
abbrev pub adaptation : List Adaptation → ℕ → Adaptation
adaptation states k = slice_index_or states k adaptations.at_reset

-- what the numbers of eight adaptations keep: their ranges, and Y
pub record AreKept (yu whole fraction dms dml ap y : List ℕ) : Type 0 where
  pub yu_low : EachLane (λ k. 544 ≤ lane yu k)
  pub yu_high : EachLane (λ k. lane yu k ≤ 5120)
  pub low : EachLane (λ k. 544 ≤ lane whole k)
  pub whole_high : EachLane (λ k. lane whole k ≤ 5120)
  pub high : EachLane (λ k. 64 * lane whole k + lane fraction k ≤ 327680)
  pub fraction_few : EachLane (λ k. lane fraction k < 64)
  pub dms_few : EachLane (λ k. lane dms k ≤ 3584)
  pub dml_few : EachLane (λ k. lane dml k ≤ 14336)
  pub ap_few : EachLane (λ k. lane ap k ≤ 512)
  pub y_low : EachLane (λ k. 544 ≤ lane y k)
  pub y_high : EachLane (λ k. lane y k ≤ 5120)
  pub y_is : EachLane (λ k. pos (lane y k)
      ≡ mix (pos (lane yu k)) (pos (64 * lane whole k + lane fraction k)) (lima (pos (lane ap k))))

-- the variables of a circuit
abbrev pub variables : List Variables → ℕ → Variables
variables states k = slice_index_or states k codec.at_reset

-- numbers that are SEZ and SE of eight predictors
pub record AreEstimated (states : List Prediction) (zeros all : List ℕ) : Type 0 where
  pub zeros_are : EachLane (λ k. number zeros k ≡ sez (predictor states k))
  pub all_are : EachLane (λ k. number all k ≡ se (predictor states k))
