-- Signed numbers of 16 bits in two's complement.
use Rattle.g726_lanes.proofs.Common.{◌≡◌, ◌<◌, ◌≤◌, ℕ, ◌+◌, ◌-◌, ◌/◌, ◌%◌, min, max, nat_le, not, ℤ, rules}
use Rattle.g726_lanes.proofs.Common.{common_steps, pos, negsuc, ◌+ℤ◌, ◌-ℤ◌, ◌≤ℤ◌, to_z, w16, arith, SFits, unsigned_abs}
use Rattle.g726_lanes.proofs.Common.{is_negative, ◌==◌, cases_lt, least, at_least, signs_differ, is_zero}
use Rattle.std.specs.Int.{int_wrap}

-- a number plus 32768 is a natural one
abbrev pub raised : ℕ → ℕ
raised n = (n + 32768) % 65536

-- raising adds 32768 to the signed number
pub raised_is : (n : ℕ) → n < 65536 → pos (raised n) ≡ to_z w16 n +ℤ pos 32768
raised_is n below = grind (arith, cases_lt n 32768)

-- a natural number less another, as one of 16 bits
pub less_is : (x c : ℕ) → x < 65536 → c < 65536 → c ≤ x + 32768 → x ≤ c + 32767
    → to_z w16 ((x + (65536 - c)) % 65536) ≡ pos x -ℤ pos c
less_is x c x_below c_below low high = grind (arith, common_steps)

-- the sign is the top bit
pub sign_is : (n : ℕ) → n < 65536 → is_negative (to_z w16 n) ≡ nat_le 32768 n
sign_is n below = grind (arith, cases_lt n 32768)

-- two numbers with the same top bit have the same sign
pub same_sign : (p q : ℕ) → p < 65536 → q < 65536
    → (p / 32768 == q / 32768) ≡ not (signs_differ (is_negative (to_z w16 p)) (is_negative (to_z w16 q)))
same_sign p q p_below q_below = grind (arith, common_steps)

-- 0 is 0
pub zero_is : (n : ℕ) → n < 65536 → (n == 0) ≡ is_zero (to_z w16 n)
zero_is n below = search rules

-- lanes of `simd_min` and of both
pub least_is : (a b : ℕ) → least a b ≡ min a b
least_is a b = grind (arith, cases_lt a b)

-- and of `simd_max`
pub most_is : (b y : ℕ) → at_least b y ≡ max y b
most_is b y = grind (arith, cases_lt y b)

-- a natural number that is an integer plus 131072, in 16 bits
pub wrap_is : (z : ℤ) (n : ℕ) → pos n ≡ z +ℤ pos 131072 → to_z w16 (n % 65536) ≡ int_wrap w16 z
unfolding int_wrap
wrap_is z n e = search rules

-- a number of 16 bits fits them
pub number_fits : (n : ℕ) → n < 65536 → SFits w16 (to_z w16 n)
number_fits n below = grind (arith, cases_lt n 32768)

-- a difference of two numbers
pub difference_is : (s e : ℕ) → s < 65536 → e < 65536 → negsuc 8063 ≤ℤ to_z w16 s → to_z w16 s ≤ℤ pos 8064
    → negsuc 16383 ≤ℤ to_z w16 e → to_z w16 e ≤ℤ pos 16383
    → (to_z w16 ((s + (65536 - e)) % 65536) ≡ int_wrap w16 (to_z w16 s -ℤ to_z w16 e))
    × (unsigned_abs (to_z w16 ((s + (65536 - e)) % 65536)) < 32768)
difference_is s e s_below e_below low high e_low e_high = grind (arith, common_steps)
