-- What a remainder finds.
use Rattle.g704_crc4.proofs.Common.{◌≡◌, Bool, true, false, List, [], ◌∷◌, refl, not, false≢true, arith, rules}
use Rattle.g704_crc4.proofs.Common.{common_steps, true≢false, Remainder, add, with_bit, after_bits, same, is_right}
use Rattle.g704_crc4.proofs.Common.{SentIsRight, OneErrorIsFound, remainder_in, sent_octets}
use Rattle.g704_crc4.proofs.Submultiframes.{after-append}
use Rattle.g704_crc4.proofs.CheckBits.{right_check_bits}

-- What is added to both on the left is taken from both.
add-cancel_left : (z x y : Bool) → add z x ≡ add z y → x ≡ y
add-cancel_left z x y e = search rules

-- Nothing is left of what is added to itself.
add-self : (x : Bool) → add x x ≡ false
add-self true = refl
add-self false = refl

-- Remainders that differ still do with one bit more.
with-bit_left : (a b : Remainder) (bit : Bool) → with_bit a bit ≡ with_bit b bit → a ≡ b
with-bit_left a b bit e = grind (arith, common_steps)

-- And with all that follow.
after-left : (bits : List Bool) (a b : Remainder) → after_bits a bits ≡ after_bits b bits → a ≡ b
after-left [] a b e = e
after-left (bit ∷ bits) a b e = with-bit_left a b bit (after-left bits (with_bit a bit) (with_bit b bit) e)

-- A bit is not its opposite.
not-same : (bit : Bool) → bit ≡ not bit → ⊥
not-same true e = true≢false e
not-same false e = false≢true e

-- So a single wrong bit is found.
pub one_error : OneErrorIsFound
one_error before after bit e = search (rules, after-append, not-same, add-cancel_left, after-left)

-- A remainder is the same as itself.
same-self : (r : Remainder) → same r r ≡ true
same-self r = rw (add-self r.c1, add-self r.c2, add-self r.c3, add-self r.c4) refl

-- And what is sent is right.
pub right_sent : SentIsRight
unfolding is_right
right_sent octets n le = cc (right_check_bits octets n le, same-self (remainder_in (sent_octets octets) n))
