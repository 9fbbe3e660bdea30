-- Polynomials over the field of two elements, in which ITU-T G.704, 2.3.3.5 describes a submultiframe.
use Rattle.std.specs.Prelude.{◌≡◌, ℕ, Bool, true, false, List, [], ◌∷◌, slice_index_or, if◌then◌else◌}
use Rattle.g704_crc4.specs.declared.remainder.Remainder.{Remainder}
use Rattle.g704_crc4.specs.Remainder.{add, no_remainder, after_bits}

-- A polynomial is the list of its coefficients, that of 1 first. This is its coefficient of a power of x.
abbrev pub coefficient : List Bool → ℕ → Bool
coefficient p power = slice_index_or p power false

-- Two polynomials have the same coefficients.
abbrev pub HaveSameCoefficients : List Bool → List Bool → Type 0
HaveSameCoefficients p q = (power : ℕ) → coefficient p power ≡ coefficient q power

-- The sum of two.
unfoldable pub sum : List Bool → List Bool → List Bool
sum [] q = q
sum (a ∷ p) [] = a ∷ p
sum (a ∷ p) (b ∷ q) = add a b ∷ sum p q

-- x times a polynomial.
abbrev pub times_x : List Bool → List Bool
times_x p = false ∷ p

-- The product of two.
abbrev pub times : List Bool → List Bool → List Bool
times [] q = []
times (a ∷ p) q = sum (if a then q else []) (times_x (times p q))

-- The generator polynomial: x^4+x+1.
abbrev pub generator : List Bool
generator = true ∷ true ∷ false ∷ false ∷ true ∷ []

-- Bits as a polynomial, the first bit the most significant: one more bit makes it x times itself, plus the
-- bit.
unfoldable pub polynomial_after : List Bool → List Bool → List Bool
polynomial_after p [] = p
polynomial_after p (bit ∷ bits) = polynomial_after (bit ∷ p) bits

abbrev pub polynomial_of : List Bool → List Bool
polynomial_of bits = polynomial_after [] bits

-- A remainder as a polynomial, C1 the most significant bit.
abbrev pub of_remainder : Remainder → List Bool
of_remainder left = left.c4 ∷ left.c3 ∷ left.c2 ∷ left.c1 ∷ []

-- A polynomial has this remainder: it is a multiple of the generator, plus the remainder.
abbrev pub Leaves : List Bool → Remainder → Type 0
Leaves p left = (quotient : List Bool)
    × HaveSameCoefficients p (sum (times generator quotient) (of_remainder left))

-- x^4 times the polynomial of the bits has the remainder that is sent; its degree is below 4.
abbrev pub RemainderIsLeft : Type 0
RemainderIsLeft = (bits : List Bool)
    → Leaves (times_x (times_x (times_x (times_x (polynomial_of bits))))) (after_bits no_remainder bits)
