-- What is left of a number without a part of it.
use Rattle.g726_predict.proofs.Common.{ℕ, ◌≤◌, ℤ, pos, negsuc, ◌-ℤ◌, ◌≤ℤ◌, w16, w32, SFits, shr_z, rules}

-- the part and what is left have 32 bits, and what is left is at most 32767 on either side
pub record Left (z : ℤ) (divisor : ℕ) : Type 0 where
  pub part : SFits w32 (shr_z z divisor)
  pub fits : SFits w32 (z -ℤ shr_z z divisor)
  pub low : negsuc 32767 ≤ℤ (z -ℤ shr_z z divisor)
  pub high : (z -ℤ shr_z z divisor) ≤ℤ pos 32767

-- so it is of a number of 16 bits
pub left : (z : ℤ) (divisor : ℕ) → SFits w16 z → Left z divisor
left z n h = search rules
