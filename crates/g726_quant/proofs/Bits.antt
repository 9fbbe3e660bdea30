-- The number of bits is the least exponent of a power of 2 above a number.
use Rattle.std.proofs.Common.{◌≡◌, ℕ, zero, suc, ◌*◌, ◌/◌, ◌<◌, ◌≤◌, ◌^◌, max, arith, sym, inl, inr}
use Rattle.std.proofs.Math.Nat.{pow-suc}
use Rattle.std.proofs.Math.Pow.{pow_mono}
use Rattle.std.proofs.lemmas.Bool.{cases_lt}
use Rattle.g726_quant.specs.Arithmetic.{halvings, number_of_bits}
use Rattle.g726_quant.specs.Blocks.{exponent}

-- a number has no more bits than it has halvings
halvings_hold : (most m : ℕ) → m ≤ most → m < 2 ^ halvings most m
halvings_hold zero zero h = omega arith
halvings_hold zero (suc m) h = absurd (omega arith)
halvings_hold (suc most) zero h = omega arith
halvings_hold (suc most) (suc m) h =
    omega (arith, halvings_hold most (suc m / 2) (omega arith), pow-suc 2 (halvings most (suc m / 2)))

-- and no fewer
halvings_least : (most m k : ℕ) → m < 2 ^ k → halvings most m ≤ k
halvings_least zero m k h = omega arith
halvings_least (suc most) zero k h = omega arith
halvings_least (suc most) (suc m) zero h = absurd (omega arith)
halvings_least (suc most) (suc m) (suc k) h =
    omega (arith, halvings_least most (suc m / 2) k (omega (arith, pow-suc 2 k)))

-- the number of bits is large enough
pub number_of_bits_holds : (magnitude : ℕ) → magnitude < 2 ^ number_of_bits magnitude
unfolding number_of_bits
number_of_bits_holds m = halvings_hold m m (omega arith)

-- and none less is
pub number_of_bits_least : (magnitude bits : ℕ) → magnitude < 2 ^ bits → number_of_bits magnitude ≤ bits
unfolding number_of_bits
number_of_bits_least m k h = halvings_least m m k h

-- the place of the top bit of a number that is not 0
pub exponent_is : (m r : ℕ) → 2 ^ r ≤ m → m < 2 * 2 ^ r → exponent m ≡ r
unfolding exponent
exponent_is m r low high =
    let most = number_of_bits_least m (suc r) (omega (arith, pow-suc 2 r)) in
    elim (cases_lt r (number_of_bits m)) [
      | inl more ↦ omega (arith, most)
      | inr few ↦ absurd (omega (arith, number_of_bits_holds m, pow_mono {i = number_of_bits m} {j = r} few))
    ]

-- the place of the highest bit of a number; 0 counts as 1
pub exponent_of_max : (m r : ℕ) → 2 ^ r ≤ max m 1 → max m 1 < 2 * 2 ^ r → r ≡ exponent m
unfolding exponent number_of_bits
exponent_of_max zero r low high =
    elim (cases_lt 0 r) [
      | inl more ↦ absurd (omega (arith, pow_mono {i = 1} {j = r} more))
      | inr none ↦ omega arith
    ]
exponent_of_max (suc m) r low high = sym (exponent_is (suc m) r (omega arith) (omega arith))
