-- Octets changed by their places, and the submultiframes of a stream as it grows.
use Rattle.g704_crc4.proofs.Common.{◌≡◌, ℕ, suc, ◌+◌, ◌*◌, ◌≤◌, ◌/◌, Bool, List, [], ◌∷◌, ◌++◌, length, drop, refl, sym}
use Rattle.g704_crc4.proofs.Common.{rules, ap, ◌∙◌, arith, append_assoc, length-drop, take-append-le, drop-append-le}
use Rattle.g704_crc4.proofs.Common.{take_all, drop_all, length_push, Remainder, no_remainder, after_bits, after_octet}
use Rattle.g704_crc4.proofs.Common.{sent_bits, remainder_of, each_at, submultiframe}
use Rattle.g704_crc4.specs.Remainder.{after_all, bits_in}

-- The remainder of bits, and of others after them.
pub after-append : (left : Remainder) (bits others : List Bool)
    → after_bits left (bits ++ others) ≡ after_bits (after_bits left bits) others
after-append left [] others = refl
after-append left (b ∷ bits) others = after-append _ bits others

-- The bits of octets, and of one after them.
bits-push : (octets : List ℕ) (x : ℕ) → sent_bits (octets ++ x ∷ []) ≡ sent_bits octets ++ bits_in x
unfolding sent_bits
bits-push [] x = refl
bits-push (y ∷ octets) x =
    ap (λ s. bits_in y ++ s) (bits-push octets x) ∙ sym (append_assoc (bits_in y) (sent_bits octets) (bits_in x))

-- The remainder after octets, and after one more.
pub after-push : (left : Remainder) (octets : List ℕ) (x : ℕ)
    → after_all left (octets ++ x ∷ []) ≡ after_octet (after_all left octets) x
after-push left octets x =
    ap (after_bits left) (bits-push octets x) ∙ after-append left (sent_bits octets) (bits_in x)

-- The remainder after an octet, and after others behind it.
pub after-first : (left : Remainder) (x : ℕ) (octets : List ℕ)
    → after_all left (x ∷ octets) ≡ after_all (after_octet left x) octets
unfolding sent_bits
after-first left x octets = after-append left (bits_in x) (sent_bits octets)

-- The remainder with an octet more.
remainder-push : (octets : List ℕ) (x : ℕ) → remainder_of (octets ++ x ∷ []) ≡ after_octet (remainder_of octets) x
unfolding remainder_of
remainder-push octets x = after-push no_remainder octets x

-- An octet after a whole submultiframe changes nothing in it.
part-whole : (number : ℕ) (octets others : List ℕ) → 256 * (number + 1) ≤ length octets
    → submultiframe number (octets ++ others) ≡ submultiframe number octets
unfolding submultiframe
part-whole number octets others le =
    rw (
      drop-append-le (256 * number) octets others (omega arith),
      take-append-le 256 (drop (256 * number) octets) others (omega (arith, length-drop (256 * number) octets)),
    ) refl

-- An octet more joins the last submultiframe.
part-push : (number : ℕ) (octets : List ℕ) (x : ℕ) → number ≡ length octets / 256
    → submultiframe number (octets ++ x ∷ []) ≡ submultiframe number octets ++ x ∷ []
unfolding submultiframe
part-push number octets x e =
    let d = length-drop (256 * number) octets in
    let l = length_push (drop (256 * number) octets) x in
    rw (
      drop-append-le (256 * number) octets (x ∷ []) (omega arith),
      take_all 256 (drop (256 * number) octets ++ x ∷ []) (omega arith),
      take_all 256 (drop (256 * number) octets) (omega arith),
    ) refl

-- One changed octet for each.
length-each : (change : ℕ → ℕ → ℕ) (place : ℕ) (octets : List ℕ) → length (each_at change place octets) ≡ length octets
unfolding each_at
length-each change place [] = refl
length-each change place (x ∷ octets) = ap suc (length-each change (place + 1) octets)

-- The octets changed, and others after them.
each-append : (change : ℕ → ℕ → ℕ) (place : ℕ) (octets others : List ℕ)
    → each_at change place (octets ++ others)
    ≡ each_at change place octets ++ each_at change (place + length octets) others
unfolding each_at
each-append change place [] others =
    let e : place ≡ place + 0 = omega arith in ap (λ p. each_at change p others) e
each-append change place (x ∷ octets) others = grind (arith, each-append change (place + 1) octets others)

-- One octet more, changed by its place.
each-push : (change : ℕ → ℕ → ℕ) (octets : List ℕ) (x : ℕ)
    → each_at change 0 (octets ++ x ∷ []) ≡ each_at change 0 octets ++ change (length octets) x ∷ []
unfolding each_at
each-push change octets x = grind (arith, each-append change 0 octets (x ∷ []))

-- A stream that grows, its octets changed by their places.
module _ (change : ℕ → ℕ → ℕ) where
  -- A whole submultiframe stays as it is.
  pub part-stays : (number : ℕ) (octets others : List ℕ) → 256 * (number + 1) ≤ length octets
      → submultiframe number (each_at change 0 (octets ++ others)) ≡ submultiframe number (each_at change 0 octets)
  part-stays number octets others le = search (rules, each-append, part-whole, length-each)

  -- The remainder of the last submultiframe takes the next octet.
  pub remainder-grows : (octets : List ℕ) (x : ℕ)
      → remainder_of (submultiframe (length octets / 256) (each_at change 0 (octets ++ x ∷ [])))
      ≡ after_octet (remainder_of (submultiframe (length octets / 256) (each_at change 0 octets))) (change
      (length octets) x)
  remainder-grows octets x = search (rules, length-each, each-push, part-push, remainder-push)

  -- A submultiframe that has not begun has no remainder.
  pub remainder-none : (number : ℕ) (octets : List ℕ) → length octets ≤ 256 * number
      → no_remainder ≡ remainder_of (submultiframe number (each_at change 0 octets))
  unfolding submultiframe remainder_of sent_bits
  remainder-none number octets le =
      rw (drop_all (256 * number) (each_at change 0 octets) (omega (arith, length-each change 0 octets))) refl
