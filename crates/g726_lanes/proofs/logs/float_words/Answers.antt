use Rattle.g726_lanes.proofs.Common.{rules, ◌≡◌, ◌<◌, ◌+◌, ◌*◌, ◌%◌, ℕ, zero, suc, arith, nat_lt, number_of_bits}
use Rattle.g726_lanes.proofs.Common.{float_word, mantissa_of, unpacked, packed, eight, all_lanes, mantissa_below, lane}
use Rattle.g726_quant.proofs.Bits.{number_of_bits_least}
use Rattle.g726_predict.proofs.Packing.{unpacked-packed}
use Rattle.g726_lanes.proofs.Each.{each_lane}
use Rattle.g726_lanes.proofs.Floats.{exact, number, half_fits, half_is, float_is, lane_half, half_word}
use Rattle.g726_lanes.proofs.logs.float_words.Goals as goal

pub int_to_float-floats : goal.int_to_float-floats
int_to_float-floats c =
    rw (eight 0 c.args.magnitudes (search rules))
    (all_lanes (λ i h. exact (lane c.args.magnitudes i) (c.requires.magnitudes i h)))

pub float_to_bits-floats : goal.float_to_bits-floats
float_to_bits-floats c =
    rw (eight 0 c.args.magnitudes (search rules))
    (all_lanes (λ i h. number (lane c.args.magnitudes i) (c.requires.magnitudes i h)))

pub overflow_cast-halves : goal.overflow_cast-halves
overflow_cast-halves c = search (rules, eight, all_lanes, half_fits)

-- the word of a lane
packed_is : (negative m : ℕ) → negative < 2 → m < 32768
    → (half_word (lane_half m) + negative * 1024 % 65536) % 65536
    ≡ packed (nat_lt 0 negative) (number_of_bits m) (mantissa_of m)
packed_is zero m few below =
    let bits = number_of_bits_least m 15 below in
    rw (half_is m below, (float_is m below).word) (omega (arith, bits, mantissa_below m))
packed_is (suc zero) m few below =
    let bits = number_of_bits_least m 15 below in
    rw (half_is m below, (float_is m below).word) (omega (arith, bits, mantissa_below m))
packed_is (suc (suc n)) m few below = absurd (omega arith)

is : (negative m : ℕ) → negative < 2 → m < 32768
    → unpacked ((half_word (lane_half m) + negative * 1024 % 65536) % 65536) ≡ float_word (nat_lt 0 negative) m
is negative m few below = search (rules, packed_is, unpacked-packed, number_of_bits_least, mantissa_below)

bound : (negative m : ℕ) → negative < 2 → m < 32768
    → (half_word (lane_half m) + negative * 1024 % 65536) % 65536 < 2048
bound zero m few below = grind (arith, number_of_bits_least m 15 below, packed_is zero m few below, mantissa_below m)
bound (suc zero) m few below = grind (arith, number_of_bits_least m 15 below, packed_is 1 m few below, mantissa_below m)
bound (suc (suc n)) m few below = absurd (omega arith)

pub returns : goal.returns
returns c =
    rw (eight 0 c.args.magnitudes (search rules), eight 0 c.args.negative (search rules)) (record {
      value = each_lane _ (all_lanes (λ i h. is (lane c.args.negative i) (lane c.args.magnitudes i)
          (c.requires.signs i h) (c.requires.magnitudes i h)));
      bound = each_lane _ (all_lanes (λ i h. bound (lane c.args.negative i) (lane c.args.magnitudes i)
          (c.requires.signs i h) (c.requires.magnitudes i h)));
    })
