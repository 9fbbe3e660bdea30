-- The arithmetic of ITU-T G.726 on whole numbers. An arithmetic shift is `int_shr` of std, which rounds down.
use Rattle.std.specs.Prelude.{ℕ, zero, suc, ◌/◌, ℤ, pos, neg_ℤ, Bool, if◌then◌else◌}
use Rattle.std.specs.Int.{int_wrap, w16}

-- the 16-bit signed number congruent to one modulo 65536
abbrev pub wrap16 : ℤ → ℤ
wrap16 z = int_wrap w16 z

-- the number with a sign and a magnitude
abbrev pub signed : Bool → ℕ → ℤ
signed negative magnitude = if negative then neg_ℤ (pos magnitude) else pos magnitude

-- how often a number can be halved until it is 0, up to a limit
abbrev pub halvings : ℕ → ℕ → ℕ
halvings zero m = 0
halvings (suc most) zero = 0
halvings (suc most) (suc m) = suc (halvings most (suc m / 2))

-- the number of bits of m, the least k with m < 2 ^ k
unfoldable pub number_of_bits : ℕ → ℕ
number_of_bits m = halvings m m
