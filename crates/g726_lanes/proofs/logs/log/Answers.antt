use Rattle.g726_lanes.proofs.Common.{rules, ◌≡◌, ◌<◌, ℕ, log, eight, all_lanes, lane}
use Rattle.g726_quant.proofs.Logarithms.{log_below}
use Rattle.g726_lanes.proofs.Each.{each_lane}
use Rattle.g726_lanes.proofs.Floats.{exact, number, half_fits, half_is, float_is, lane_half, half_log}
use Rattle.g726_lanes.proofs.logs.log.Goals as goal

pub int_to_float-floats : goal.int_to_float-floats
int_to_float-floats c =
    rw (eight 0 c.args.magnitudes (search rules)) (all_lanes (λ i h. exact (lane c.args.magnitudes i)
    (c.requires i h)))

pub float_to_bits-floats : goal.float_to_bits-floats
float_to_bits-floats c =
    rw (eight 0 c.args.magnitudes (search rules)) (all_lanes (λ i h. number (lane c.args.magnitudes i)
    (c.requires i h)))

pub overflow_cast-halves : goal.overflow_cast-halves
overflow_cast-halves c = search (rules, eight, all_lanes, half_fits)

is : (m : ℕ) → m < 32768 → half_log (lane_half m) ≡ log m
is m below = rw (half_is m below) (float_is m below).log

few : (m : ℕ) → m < 32768 → half_log (lane_half m) < 1920
few m below = rw (is m below) (log_below m below)

pub returns : goal.returns
returns c =
    rw (eight 0 c.args.magnitudes (search rules)) (record {
      value = each_lane _ (all_lanes (λ i h. is (lane c.args.magnitudes i) (c.requires i h)));
      bound = each_lane _ (all_lanes (λ i h. few (lane c.args.magnitudes i) (c.requires i h)));
    })
