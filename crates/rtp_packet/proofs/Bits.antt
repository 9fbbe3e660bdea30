-- One bit of an octet.
use Rattle.std.proofs.Common.{rules, ◌≡◌, ◌*◌, ◌/◌, ◌%◌, ◌^◌, ◌<◌, ℕ, not, eqb, bit_and, arith}
use Rattle.std.proofs.lemmas.Nat.{pow_pos}
use Rattle.std.proofs.lemmas.Nat.Bits.{and_pow}

-- a binary digit at its place is not 0 if the digit is 1
digit-worth : (d worth : ℕ) → d < 2 → 0 < worth → not (eqb (d * worth) 0) ≡ eqb d 1
digit-worth d worth digit some = search rules

-- a bit is set if the digit at its place is 1
bit-is_set : (n place : ℕ) → not (eqb (bit_and n (2 ^ place)) 0) ≡ eqb (n / 2 ^ place % 2) 1
bit-is_set n place = rw (and_pow n place) (digit-worth (n / 2 ^ place % 2) (2 ^ place) (omega arith) (pow_pos place))

-- the P bit
pub padding_bit : (n : ℕ) → not (eqb (bit_and n 32) 0) ≡ eqb (n / 32 % 2) 1
padding_bit n = bit-is_set n 5

-- the X bit
pub extension_bit : (n : ℕ) → not (eqb (bit_and n 16) 0) ≡ eqb (n / 16 % 2) 1
extension_bit n = bit-is_set n 4
