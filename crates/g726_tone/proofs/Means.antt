-- A mean that moves by a part of the way towards a target.
use Rattle.std.proofs.Common.{ℕ, ◌≤◌, ◌/◌, ℤ, pos, negsuc, ◌+ℤ◌, ◌≤ℤ◌, arith, w32, SFits}
use Rattle.std.proofs.lemmas.Int.{ints}
use Rattle.std.proofs.Math.Nat.{div-le_self}
use lib.Signed.{shr_z}

-- the distance to the target, its part and the mean moved by it have 32 bits, and that mean is within the bounds
pub record Moved (distance mean least most : ℤ) (divisor : ℕ) : Type 0 where
  pub way : SFits w32 distance
  pub part : SFits w32 (shr_z distance divisor)
  pub sum : SFits w32 (mean +ℤ shr_z distance divisor)
  pub low : least ≤ℤ (mean +ℤ shr_z distance divisor)
  pub high : (mean +ℤ shr_z distance divisor) ≤ℤ most

-- so it is if the mean and the target are within the bounds
pub moved : (distance mean least most : ℤ) (divisor : ℕ) → negsuc 65535 ≤ℤ least → most ≤ℤ pos 65536 → least ≤ℤ mean
    → mean ≤ℤ most → least ≤ℤ (mean +ℤ distance) → (mean +ℤ distance) ≤ℤ most → Moved distance mean least most divisor
moved (pos a) mean least most n l m mean_low mean_high low high =
    let less : a / n ≤ a = div-le_self a n in
    record {
      way = omega (arith, ints);
      part = omega (arith, ints, less);
      sum = omega (arith, ints, less);
      low = omega (arith, ints, less);
      high = omega (arith, ints, less);
    }
moved (negsuc a) mean least most n l m mean_low mean_high low high =
    let less : a / n ≤ a = div-le_self a n in
    record {
      way = omega (arith, ints);
      part = omega (arith, ints, less);
      sum = omega (arith, ints, less);
      low = omega (arith, ints, less);
      high = omega (arith, ints, less);
    }
