-- Numbers of a few bits, in the arithmetic of 16-bit numbers.
use Rattle.std.proofs.Common.{rules, ◌≡◌, ◌+◌, ◌-◌, ◌*◌, ◌/◌, ◌%◌, ◌^◌, ◌<◌, ◌≤◌, ℕ, pow-add, arith}
use Rattle.std.proofs.lemmas.Nat.{mul-add-lt, shr_below, shl_whole, one_shl}

-- bits above others
pub bits_above : (low count high bits : ℕ) → low < 2 ^ count → high < 2 ^ bits → high < 256 → count < 8
    → low + high * 2 ^ count % 65536 < 2 ^ (count + bits)
bits_above low count high bits fits more octet few = search (rules, shl_whole, mul-add-lt, pow-add)

-- bits without the lowest
pub bits_behind : (n count bits : ℕ) → n < 2 ^ count → bits ≤ 8 → bits ≤ count
    → n / (1 * 2 ^ bits % 65536) < 2 ^ (count - bits)
bits_behind n count bits fits size enough =
    let together : count - bits + bits ≡ count = omega arith in
    rw (one_shl bits 16 (omega arith)) (shr_below n (count - bits) bits (rw together fits))
