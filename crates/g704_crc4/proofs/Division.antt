-- Division by the generator, one bit of the dividend more.
use Rattle.g704_crc4.proofs.Common.{◌≡◌, ℕ, zero, suc, Bool, true, false, List, [], ◌∷◌, refl, sym, ap, ◌∙◌, Remainder}
use Rattle.g704_crc4.proofs.Common.{arith, rules, common_steps, add, no_remainder, with_bit, after_bits}
use Rattle.g704_crc4.specs.Polynomials.{coefficient, HaveSameCoefficients, sum, times_x, times, generator, of_remainder}
use Rattle.g704_crc4.specs.Polynomials.{polynomial_after, Leaves, RemainderIsLeft}

-- Nothing added.
add-none : (a : Bool) → add a false ≡ a
add-none true = refl
add-none false = refl

-- The coefficients of a sum are the sums of theirs.
at-sum : (p q : List Bool) (k : ℕ) → coefficient (sum p q) k ≡ add (coefficient p k) (coefficient q k)
unfolding sum
at-sum [] q k = refl
at-sum (a ∷ p) [] k = sym (add-none (coefficient (a ∷ p) k))
at-sum (a ∷ p) (b ∷ q) zero = refl
at-sum (a ∷ p) (b ∷ q) (suc k) = at-sum p q k

-- x^4 times a polynomial.
abbrev x4 : List Bool → List Bool
x4 p = times_x (times_x (times_x (times_x p)))

-- The part of a multiple of the generator that its x^4 makes, without one x.
abbrev far : List Bool → List Bool
far q = times_x (times_x (times_x (sum q (times_x []))))

-- The lowest coefficient of a multiple of the generator and a remainder.
at-zero : (q : List Bool) (left : Remainder)
    → coefficient (sum (times generator q) (of_remainder left)) 0 ≡ add (add (coefficient q 0) false) left.c4
unfolding sum
at-zero q left = grind (arith, common_steps)

-- And the others.
at-suc : (q : List Bool) (left : Remainder) (k : ℕ)
    → coefficient (sum (times generator q) (of_remainder left)) (suc k)
    ≡ add (add (coefficient q (suc k)) (add (coefficient q k) (coefficient (far q) k)))
    (coefficient (of_remainder left) (suc k))
unfolding sum
at-suc q left k = search (rules, at-sum)

-- What that part is.
far-is : (q : List Bool) (k : ℕ) → coefficient (sum q (times_x [])) k ≡ coefficient (sum q []) k
far-is q k = grind (arith, at-sum q (times_x []) k, at-sum q [] k)

-- What is added twice is gone.
case-0 : (t : Bool) → false ≡ add (add t false) t
case-0 true = refl
case-0 false = refl

-- A quotient's bit that is added to the next coefficient is gone by the remainder's.
case-1 : (q c t : Bool) → false ≡ add (add q false) c → false ≡ add (add q (add t false)) (add c t)
case-1 q c t e = search rules

-- The quotient's next bit is that over the top.
case-4 : (a b c t : Bool) → false ≡ add (add a (add b false)) c
    → t ≡ add (add a (add b (add (add c t) false))) false
case-4 a b c t e = search rules

-- One bit more of the dividend.
one-more : (p q : List Bool) (left : Remainder) (bit : Bool)
    → HaveSameCoefficients (x4 p) (sum (times generator q) (of_remainder left))
    → HaveSameCoefficients (x4 (bit ∷ p)) (sum (times generator (add left.c1 bit ∷ q)) (of_remainder
    (with_bit left bit)))
unfolding sum
one-more p q left bit h zero = case-0 (add left.c1 bit) ∙ sym (at-zero (add left.c1 bit ∷ q) (with_bit left bit))
one-more p q left bit h (suc zero) =
    case-1 (coefficient q 0) left.c4 (add left.c1 bit) (h 0 ∙ at-zero q left)
    ∙ sym (at-suc (add left.c1 bit ∷ q) (with_bit left bit) 0)
one-more p q left bit h (suc (suc zero)) =
    h 1 ∙ at-suc q left 0 ∙ sym (at-suc (add left.c1 bit ∷ q) (with_bit left bit) 1)
one-more p q left bit h (suc (suc (suc zero))) =
    h 2 ∙ at-suc q left 1 ∙ sym (at-suc (add left.c1 bit ∷ q) (with_bit left bit) 2)
one-more p q left bit h (suc (suc (suc (suc zero)))) =
    case-4 (coefficient q 3) (coefficient q 2) left.c1 bit (h 3 ∙ at-suc q left 2)
    ∙ sym (at-suc (add left.c1 bit ∷ q) (with_bit left bit) 3)
one-more p q left bit h (suc (suc (suc (suc (suc k))))) =
    h (suc (suc (suc (suc k)))) ∙ at-suc q left (suc (suc (suc k)))
    ∙ ap (λ f. add (add (coefficient q (suc (suc (suc (suc k))))) (add (coefficient q (suc (suc (suc k)))) f)) false)
    (far-is q k)
    ∙ sym (at-suc (add left.c1 bit ∷ q) (with_bit left bit) (suc (suc (suc (suc k)))))

-- Nothing is no multiple, and leaves nothing.
nothing : HaveSameCoefficients (x4 []) (sum (times generator []) (of_remainder no_remainder))
unfolding sum
nothing h0 = search rules

-- All bits of the dividend.
divided-after : (p q : List Bool) (left : Remainder) (bits : List Bool)
    → HaveSameCoefficients (x4 p) (sum (times generator q) (of_remainder left))
    → Leaves (x4 (polynomial_after p bits)) (after_bits left bits)
unfolding polynomial_after
divided-after p q left [] h = (q, h)
divided-after p q left (bit ∷ bits) h =
    divided-after (bit ∷ p) (add left.c1 bit ∷ q) (with_bit left bit) bits (one-more p q left bit h)

-- So the four bits are the remainder.
pub divided : RemainderIsLeft
divided bits = divided-after [] [] no_remainder bits nothing
