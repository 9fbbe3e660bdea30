-- The remainder of a submultiframe, bit by bit (ITU-T G.704, 2.3.3.5). Polynomials says what it is the
-- remainder of.
use Rattle.std.specs.Prelude.{ℕ, ◌+◌, ◌-◌, ◌*◌, ◌/◌, ◌%◌, ◌^◌, Bool, true, false, not, ◌==◌, List, [], ◌∷◌}
use Rattle.std.specs.Prelude.{◌++◌}
use Rattle.g704_crc4.specs.declared.remainder.Remainder.{Remainder}

-- A bit as a number.
abbrev pub bit_number : Bool → ℕ
bit_number true = 1
bit_number false = 0

-- A remainder as a four-bit number, C1 on top.
abbrev pub crc_number : Remainder → ℕ
crc_number left = 8 * bit_number left.c1 + 4 * bit_number left.c2 + 2 * bit_number left.c3 + bit_number left.c4

-- The sum of two coefficients, modulo 2.
abbrev pub add : Bool → Bool → Bool
add true b = not b
add false b = b

-- The remainder of no bits.
abbrev pub no_remainder : Remainder
no_remainder = record { c1 = false; c2 = false; c3 = false; c4 = false }

-- The remainder after one more bit: x times the remainder, plus x^4 if the bit is set, where x^4 is x+1.
abbrev pub with_bit : Remainder → Bool → Remainder
with_bit left bit =
    record { c1 = left.c2; c2 = left.c3; c3 = add left.c4 (add left.c1 bit); c4 = add left.c1 bit }

-- The remainder after more bits.
abbrev pub after_bits : Remainder → List Bool → Remainder
after_bits left [] = left
after_bits left (bit ∷ bits) = after_bits (with_bit left bit) bits

-- A bit of an octet, 0 for the first sent.
abbrev pub bit_at : ℕ → ℕ → Bool
bit_at octet bit = (octet / 2 ^ (7 - bit)) % 2 == 1

-- The bits of an octet in the order of sending.
abbrev pub bits_in : ℕ → List Bool
bits_in octet =
    bit_at octet 0 ∷ bit_at octet 1 ∷ bit_at octet 2 ∷ bit_at octet 3
    ∷ bit_at octet 4 ∷ bit_at octet 5 ∷ bit_at octet 6 ∷ bit_at octet 7 ∷ []

-- The bits of octets.
unfoldable pub sent_bits : List ℕ → List Bool
sent_bits [] = []
sent_bits (octet ∷ octets) = bits_in octet ++ sent_bits octets

-- The remainder after the bits of one more octet.
abbrev pub after_octet : Remainder → ℕ → Remainder
after_octet left octet = after_bits left (bits_in octet)

-- The remainder after the bits of octets.
abbrev pub after_all : Remainder → List ℕ → Remainder
after_all left octets = after_bits left (sent_bits octets)

-- The remainder of the bits of octets.
unfoldable pub remainder_of : List ℕ → Remainder
remainder_of octets = after_bits no_remainder (sent_bits octets)
