-- A checker and its history, one octet more.
use Rattle.g704_crc4.proofs.Common.{◌≡◌, ℕ, ◌+◌, ◌*◌, ◌-◌, ◌/◌, ◌%◌, Bool, true, false, List, [], ◌∷◌, None, ◌++◌}
use Rattle.g704_crc4.proofs.Common.{rules, common_steps, length, refl, sym, ap, ◌∙◌, arith, inl, inr, ◌≢◌, nat_le}
use Rattle.g704_crc4.proofs.Common.{cases_eq, cases_lt, eq-eqb, ne_eqb, le-leb, lt-leb, lt-ltb, le-ltb, length_push}
use Rattle.g704_crc4.proofs.Common.{Remainder, Checker, no_remainder, after_octet, sent_bits, remainder_of, crc_number}
use Rattle.g704_crc4.proofs.Common.{each_at, submultiframe, si_of, check_bits_in, cleared_at, cleared, remainder_in}
use Rattle.g704_crc4.proofs.Common.{same, check_bits_with, far_end_event, block_event, is_right, event_of, ChecksAfter}
use Rattle.g704_crc4.proofs.Submultiframes.{remainder-grows, remainder-none}
use Rattle.g704_crc4.proofs.CheckBits.{by-bits}
use Rattle.g704_crc4.proofs.Received.{remainder-stays, si-here, first, second, third, fourth}

-- A checker that has received nothing.
pub checks-none : ChecksAfter
    (record { place = 0; before = no_remainder; running = 0; check_bits = no_remainder; begun = false }) []
unfolding each_at submultiframe remainder_of sent_bits
checks-none = grind (arith, common_steps)

-- A checker and its history, and the next octet.
module _ (m : Checker) (h : List ℕ) (x : ℕ) (s : ChecksAfter m h) where
  -- Within a submultiframe there is one before it if there was.
  begun-within : (length h + 1) % 256 ≢ 0 → m.begun ≡ nat_le 256 (length (h ++ x ∷ []))
  begun-within ne = grind (arith, common_steps)

  -- The remainder of the submultiframe with the octet.
  abbrev pub with_octet : Remainder
  with_octet = remainder_of (submultiframe (length h / 256) (cleared (h ++ x ∷ [])))

  -- What a checker counts with the next octet is the remainder with that octet.
  pub counted-more : (taken left : ℕ) → taken ≡ cleared_at (length h) x
      → ((r : Remainder) → m.running ≡ crc_number r → left ≡ crc_number (after_octet r taken))
      → left ≡ crc_number with_octet
  counted-more taken left is more = grind (arith, remainder-grows cleared_at h x)

  -- An octet within a submultiframe.
  pub checks-within : (place left : ℕ) (bits : Remainder) → place ≡ (m.place + 1) % 512
      → left ≡ crc_number with_octet
      → bits ≡ check_bits_with m.check_bits m.place (nat_le 128 x) → place % 256 ≢ 0
      → ChecksAfter (record { place = place; before = m.before; running = left; check_bits = bits; begun = m.begun })
      (h ++ x ∷ [])
  checks-within place left bits at is now ne =
      let l = length_push h x in
      let same : length h / 256 ≡ length (h ++ x ∷ []) / 256 = omega (arith, ne) in
      record {
        place = omega arith;
        begun = begun-within (λ z. ne (omega (arith, z)));
        before = λ le.
            s.before (omega (arith, ne, le)) ∙ sym (remainder-stays h x (length h / 256 - 1) (omega (arith, ne, le)))
            ∙ ap (λ n. remainder_in (h ++ x ∷ []) (n - 1)) same;
        running = is
            ∙ ap (λ n. crc_number (remainder_of (submultiframe n (cleared (h ++ x ∷ []))))) same;
        c1 = λ lt. ap (λ (r : Remainder). r.c1) now ∙ first m h x s
            ∙ ap (λ n. si_of (h ++ x ∷ []) (8 * n)) same;
        c2 = λ lt. ap (λ (r : Remainder). r.c2) now ∙ second m h x s (omega (arith, lt, ne))
            ∙ ap (λ n. si_of (h ++ x ∷ []) (8 * n + 2)) same;
        c3 = λ lt. ap (λ (r : Remainder). r.c3) now ∙ third m h x s (omega (arith, lt, ne))
            ∙ ap (λ n. si_of (h ++ x ∷ []) (8 * n + 4)) same;
        c4 = λ lt. ap (λ (r : Remainder). r.c4) now ∙ fourth m h x s (omega (arith, lt, ne))
            ∙ ap (λ n. si_of (h ++ x ∷ []) (8 * n + 6)) same;
      }

  -- The last octet of a submultiframe.
  pub checks-last : (after : Checker) → after.place ≡ (m.place + 1) % 512 → after.place % 256 ≡ 0
      → after.before ≡ with_octet → after.running ≡ 0 → after.begun ≡ true → ChecksAfter after (h ++ x ∷ [])
  unfolding remainder_in
  checks-last after at e left none begun =
      let l = length_push h x in
      let n : length h / 256 ≡ length (h ++ x ∷ []) / 256 - 1 = omega arith in
      record {
        place = omega arith;
        begun = begun ∙ sym (le-leb 256 (length (h ++ x ∷ [])) (omega arith));
        before = λ le. left ∙ ap (remainder_in (h ++ x ∷ [])) n;
        running = none
            ∙ ap crc_number (remainder-none cleared_at (length (h ++ x ∷ []) / 256) (h ++ x ∷ []) (omega arith));
        c1 = λ lt. absurd (omega arith);
        c2 = λ lt. absurd (omega arith);
        c3 = λ lt. absurd (omega arith);
        c4 = λ lt. absurd (omega arith);
      }

  -- An octet that is not the first of its frame has no check bit.
  pub bits-kept : m.place % 32 ≢ 0 → m.check_bits ≡ check_bits_with m.check_bits m.place (nat_le 128 x)
  bits-kept ne = grind (arith, ne_eqb (m.place % 256))

  -- Nor an E bit.
  pub none_reported : (si : Bool) → m.place % 32 ≢ 0 → None ≡ far_end_event m.place si
  none_reported si ne = grind (arith, common_steps)

  -- It is taken as it comes.
  pub taken-whole : m.place % 32 ≢ 0 → x ≡ cleared_at (length h) x
  taken-whole ne = let p = s.place in rw (ne_eqb (length h % 64) 0 (λ same. ne (omega (arith, same)))) refl

  -- The check bits of a submultiframe that ends with the octet.
  bits-are : (length h + 1) % 256 ≡ 0
      → check_bits_with m.check_bits m.place (nat_le 128 x) ≡ check_bits_in (h ++ x ∷ []) (length h / 256)
  unfolding check_bits_in
  bits-are e = by-bits _ _ _ _ (check_bits_in (h ++ x ∷ []) (length h / 256)) (first m h x s)
      (second m h x s (omega arith)) (third m h x s (omega arith)) (fourth m h x s (omega arith))

  -- What is learned with the last octet of a submultiframe.
  pub block-event-is : (place : ℕ) → place ≡ (m.place + 1) % 512 → place % 256 ≡ 0
      → block_event m.begun (same (check_bits_with m.check_bits m.place (nat_le 128 x)) m.before)
      ≡ event_of (h ++ x ∷ [])
  unfolding event_of is_right
  block-event-is place at e =
      let p = s.place in
      let l = length_push h x in
      let all = h ++ x ∷ [] in
      let end : length all % 256 ≡ 0 = omega arith in
      elim (cases_lt (length h) 256) [
        | inl lt ↦ rw (
          s.begun,
          lt-leb 256 (length h) lt,
          eq-eqb (length all % 256) 0 end,
          le-ltb 256 (length all) (omega arith),
        ) refl
        | inr ge ↦
            let n : length all / 256 - 2 ≡ length h / 256 - 1 = omega arith in
            let k : length h / 256 - 1 + 1 ≡ length h / 256 = omega arith in
            let before : m.before ≡ remainder_in all (length h / 256 - 1)
            = s.before ge ∙ sym (remainder-stays h x (length h / 256 - 1) (omega arith)) in
            rw (eq-eqb (length all % 256) 0 end, lt-ltb 256 (length all) (omega arith))
            (grind (arith, le-leb 256 (length h) ge, bits-are (omega arith)))
      ]

  -- An E bit reports the same for Si bits that are equal at E bits.
  far-end-event-same : (place : ℕ) (a b : Bool) → (place ≡ 416 → a ≡ b) → (place ≡ 480 → a ≡ b)
      → far_end_event place a ≡ far_end_event place b
  far-end-event-same place a b one two = grind (arith, cases_eq place 416, cases_eq place 480)

  -- What is learned with any other octet.
  pub far-end-event-is : (place : ℕ) → place ≡ (m.place + 1) % 512 → place % 256 ≢ 0
      → far_end_event m.place (nat_le 128 x) ≡ event_of (h ++ x ∷ [])
  unfolding event_of
  far-end-event-is place at ne = search (rules, length_push, ne_eqb, far-end-event-same, si-here)
