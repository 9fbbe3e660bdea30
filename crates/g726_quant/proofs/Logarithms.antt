-- The range of logarithms.
use Rattle.std.proofs.Common.{ℕ, ◌<◌, ◌≤◌, negsuc, pos, ◌≤ℤ◌, arith}
use Rattle.std.proofs.lemmas.Int.{ints}
use Rattle.g726_quant.specs.Blocks.{exponent, log, subtb}
use Rattle.g726_quant.proofs.Bits.{number_of_bits_least}

-- the logarithm of a number of 15 bits is below 15
pub log_below : (dqm : ℕ) → dqm < 32768 → log dqm < 1920
unfolding log exponent
log_below dqm h = omega (arith, number_of_bits_least dqm 15 (omega arith))

-- less that of the scale factor it has twelve bits
pub dln_in_range :
    (dqm y : ℕ) → dqm < 32768 → 544 ≤ y → y ≤ 5120 →
    (negsuc 2047 ≤ℤ subtb (log dqm) y) × (subtb (log dqm) y ≤ℤ pos 2047)
dln_in_range dqm y h low high = (omega (arith, ints, log_below dqm h), omega (arith, ints, log_below dqm h))
