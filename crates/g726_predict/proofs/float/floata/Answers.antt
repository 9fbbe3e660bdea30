use Rattle.g726_predict.proofs.Common.{ℕ, ◌<◌, get_or}
use Rattle.g726_predict.proofs.Lanes.{eight, same_lanes, all_lanes, at_lane}
use Rattle.g726_predict.proofs.Floats.{exact, number, half_fits, exponent_lane, mantissa_lane}
use Rattle.g726_predict.proofs.float.floata.Goals as goal
use Rattle.g726_predict.proofs.float.floata.Goals.{Start}

-- each lane is a magnitude of 13 bits
fits : (c : Start) → (i : ℕ) → i < 8 → get_or c.args.magnitudes i 0 < 8192
fits c = at_lane (λ x. x < 8192) 0 c.args.magnitudes c.requires.eight c.requires.magnitudes

pub int_to_float-floats : goal.int_to_float-floats
int_to_float-floats c =
    rw (eight 0 _ c.requires.eight) (all_lanes (λ i h. exact _ (fits (goal.at.int_to_float-floats c).Start i h)))

pub float_to_bits-floats : goal.float_to_bits-floats
float_to_bits-floats c =
    rw (eight 0 _ c.requires.eight) (all_lanes (λ i h. number _ (fits (goal.at.float_to_bits-floats c).Start i h)))

pub overflow_cast-halves : goal.overflow_cast-halves
overflow_cast-halves c =
    rw (eight 0 _ c.requires.eight) (all_lanes (λ i h. half_fits _ (fits (goal.at.overflow_cast-halves c).Start i h)))

pub returns : goal.returns
returns c =
    let few = fits (goal.at.returns c).Start in
    rw (eight 0 _ c.requires.eight) (record {
      exponents = same_lanes (λ i h. exponent_lane _ (few i h));
      mantissas = same_lanes (λ i h. mantissa_lane _ (few i h));
    })
