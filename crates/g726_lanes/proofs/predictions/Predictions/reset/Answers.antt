use Rattle.g726_lanes.proofs.Common.{refl, number_of_bits, mantissa_of}
use Rattle.g726_lanes.proofs.Each.{of_eight}
use Rattle.g726_lanes.proofs.predictions.Predictions.reset.Goals as goal

pub returns : goal.returns
unfolding number_of_bits mantissa_of
returns c = of_eight _ refl refl refl refl refl refl refl refl
