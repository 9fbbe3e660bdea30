-- Numbers of 16 bits that are congruent to others.
use Rattle.std.proofs.Common.{◌≡◌, ℕ, suc, cond, ◌-◌, ◌/◌, ◌%◌, ◌<◌, ℤ, pos, negsuc, ◌+ℤ◌, ◌*ℤ◌, ◌≤ℤ◌, arith}
use Rattle.std.specs.Int.{int_wrap}
use Rattle.std.specs.Prelude.{nat_lt}
use Rattle.std.proofs.lemmas.Int.{ints}
use Rattle.std.proofs.lemmas.Bool.{cond_both, ltb-true, ltb-false}
use Rattle.g726_quant.specs.Arithmetic.{wrap16}

-- a number of 16 bits that differs from z by a multiple of 65536
abbrev pub Wraps : ℤ → ℤ → Type 0
Wraps z w = (negsuc 32767 ≤ℤ w) × (w ≤ℤ pos 32767) × ((k : ℤ) × (z ≡ w +ℤ k *ℤ pos 65536))

-- a remainder, or one less 65536 if that is the 16-bit number
from_remainder :
    (z q : ℤ) (n : ℕ) → n < 65536 → z ≡ pos n +ℤ q *ℤ pos 65536 →
    Wraps z (cond (nat_lt n 32768) (pos n) (negsuc (65536 - suc n)))
from_remainder z q n h e =
    cond_both (nat_lt n 32768) (pos n) (negsuc (65536 - suc n)) (Wraps z)
    (λ low. (omega (arith, ints), omega (arith, ints, ltb-true n 32768 low), (q, e)))
    (λ high. (
      omega (arith, ints, ltb-false n 32768 high),
      omega (arith, ints, ltb-false n 32768 high),
      (q +ℤ pos 1, omega (arith, ints, ltb-false n 32768 high)),
    ))

-- wrap16 gives such a number
pub wraps : (z : ℤ) → Wraps z (wrap16 z)
unfolding int_wrap
wraps (pos a) = from_remainder (pos a) (pos (a / 65536)) (a % 65536) (omega arith) (omega (arith, ints))
wraps (negsuc a) =
    from_remainder (negsuc a) (negsuc (a / 65536)) (65536 - 1 - a % 65536) (omega arith) (omega (arith, ints))
