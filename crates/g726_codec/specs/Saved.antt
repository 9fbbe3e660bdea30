-- The octets of a saved codec: the variables of the encoder, then those of the decoder. The law and the kind
-- are not among them: the caller gives them when it loads. G.711 keeps nothing.
use Rattle.std.specs.Prelude.{ℕ, List, [], ◌++◌, ◌≡◌, Option, Some, None}
use Rattle.g726_quant.specs.Tables.{RateTables}
use Rattle.g726_tone.specs.Adaptation.{InRange}
use Rattle.g726_tone.specs.Saved.{saved_adaptation}
use Rattle.g726_predict.specs.Saved.{saved_prediction, PredictionFits}
use Rattle.g726_codec.specs.Codec.{Variables, at_reset}
use Rattle.g726_codec.specs.Kinds.{CodecState, rate_tables}

unfoldable pub saved_variables : Variables → List ℕ
saved_variables s = saved_adaptation s.adaptation ++ saved_prediction s.prediction

-- each variable has its range and its width, as in every encoder and decoder
pub record VariablesFit (s : Variables) : Type 0 where
  pub adaptation : InRange s.adaptation
  pub prediction : PredictionFits s.prediction

-- by the tables, if any: the octets of both
abbrev pub saved_by : Option RateTables → Variables → Variables → List ℕ
saved_by None encoder decoder = []
saved_by (Some r) encoder decoder = saved_variables encoder ++ saved_variables decoder

unfoldable pub saved_codec : CodecState → List ℕ
saved_codec c = saved_by (rate_tables c.kind) c.encoder c.decoder

-- by the tables, if any: the variables of both fit. Those of G.711 are at reset
abbrev pub BothFit : Option RateTables → Variables → Variables → Type 0
BothFit None encoder decoder = (encoder ≡ at_reset) × (decoder ≡ at_reset)
BothFit (Some r) encoder decoder = VariablesFit encoder × VariablesFit decoder

abbrev pub CodecFits : CodecState → Type 0
CodecFits c = BothFit (rate_tables c.kind) c.encoder c.decoder
