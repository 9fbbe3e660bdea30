-- What a receiver has of a stream, one octet more.
use Rattle.g704_crc4.proofs.Common.{◌≡◌, ℕ, ◌+◌, ◌*◌, ◌<◌, ◌≤◌, ◌/◌, ◌%◌, Bool, cond, List, [], ◌∷◌, ◌++◌, length, sym}
use Rattle.g704_crc4.proofs.Common.{rules, ap, arith, ◌==◌, nat_le, cases_eq, eq-eqb, ne_eqb, get_or_push, Remainder}
use Rattle.g704_crc4.proofs.Common.{Checker, remainder_of, si_of, cleared_at, remainder_in, check_bits_with}
use Rattle.g704_crc4.proofs.Common.{ChecksAfter}
use Rattle.std.proofs.lemmas.List.{get_or_append_left}
use Rattle.g704_crc4.proofs.Submultiframes.{part-stays}

-- The remainder of a whole submultiframe stays the same.
pub remainder-stays : (h : List ℕ) (x n : ℕ) → 256 * (n + 1) ≤ length h
    → remainder_in (h ++ x ∷ []) n ≡ remainder_in h n
unfolding remainder_in
remainder-stays h x n le = ap remainder_of (part-stays cleared_at n h (x ∷ []) le)

-- The Si bit of a frame that has begun stays the same.
pub si-before : (h : List ℕ) (x frame : ℕ) → 32 * frame < length h → si_of (h ++ x ∷ []) frame ≡ si_of h frame
unfolding si_of
si-before h x frame lt = ap (nat_le 128) (get_or_append_left h (x ∷ []) 0 (32 * frame) lt)

-- The Si bit of a frame that begins is that of the octet.
pub si-here : (h : List ℕ) (x frame : ℕ) → 32 * frame ≡ length h → si_of (h ++ x ∷ []) frame ≡ nat_le 128 x
unfolding si_of
si-here h x frame e = ap (nat_le 128) (get_or_push h x 0 (32 * frame) (sym e))

-- A check bit that has come, or comes with the octet.
bit-more : (h : List ℕ) (x at frame place : ℕ) (old : Bool) → 32 * frame ≡ 256 * (length h / 256) + at
    → place ≡ length h % 512 → (at < length h % 256 → old ≡ si_of h frame) → at ≤ length h % 256
    → cond (place % 256 == at) (nat_le 128 x) old ≡ si_of (h ++ x ∷ []) frame
bit-more h x at frame place old f p kept le = search (rules, cases_eq, eq-eqb, si-here, ne_eqb, si-before)

-- The check bits that a checker has with the next octet.
module _ (m : Checker) (h : List ℕ) (x : ℕ) (s : ChecksAfter m h) where
  abbrev bits : Remainder
  bits = check_bits_with m.check_bits m.place (nat_le 128 x)

  -- C1
  pub first : bits.c1 ≡ si_of (h ++ x ∷ []) (8 * (length h / 256))
  first = bit-more h x 0 (8 * (length h / 256)) m.place m.check_bits.c1 (omega arith) s.place s.c1 (omega arith)

  -- C2
  pub second : 64 ≤ length h % 256 → bits.c2 ≡ si_of (h ++ x ∷ []) (8 * (length h / 256) + 2)
  second le = bit-more h x 64 (8 * (length h / 256) + 2) m.place m.check_bits.c2 (omega arith) s.place s.c2 le

  -- C3
  pub third : 128 ≤ length h % 256 → bits.c3 ≡ si_of (h ++ x ∷ []) (8 * (length h / 256) + 4)
  third le = bit-more h x 128 (8 * (length h / 256) + 4) m.place m.check_bits.c3 (omega arith) s.place s.c3 le

  -- C4
  pub fourth : 192 ≤ length h % 256 → bits.c4 ≡ si_of (h ++ x ∷ []) (8 * (length h / 256) + 6)
  fourth le = bit-more h x 192 (8 * (length h / 256) + 6) m.place m.check_bits.c4 (omega arith) s.place s.c4 le
