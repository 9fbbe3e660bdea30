-- A multiframer and its history, one octet more.
use Rattle.g704_crc4.proofs.Common.{◌≡◌, ℕ, ◌+◌, ◌-◌, ◌/◌, ◌%◌, List, [], ◌∷◌, ◌++◌, length, refl, sym, ap, ◌∙◌, arith}
use Rattle.g704_crc4.proofs.Common.{rules, common_steps, inl, inr, ◌≢◌, length_push, cases_eq, ne_eqb, Remainder}
use Rattle.g704_crc4.proofs.Common.{no_remainder, after_octet, sent_bits, remainder_of, crc_number, each_at}
use Rattle.g704_crc4.proofs.Common.{submultiframe, octet_at, zeroed, check_bits_after, SendsAfter, SendsNext, ◌<◌, suc}
use Rattle.g704_crc4.proofs.Common.{append-nil, append_assoc}
use Rattle.g704_crc4.specs.Remainder.{after_all}
use Rattle.g704_crc4.specs.declared.sending.Crc4Inserter.{Crc4Inserter}
use Rattle.g704_crc4.proofs.Sent.{at-other}
use Rattle.g704_crc4.proofs.Submultiframes.{after-first, part-stays, remainder-grows, remainder-none}

-- A multiframer that has sent nothing.
pub sends-none : SendsAfter (record { place = 0; before = 0; running = 0 }) []
unfolding check_bits_after each_at submultiframe remainder_of sent_bits
sends-none = record { place = refl; before = λ _. refl; running = refl }

-- The check bits are the remainder of the submultiframe before, if there is one.
pub check-bits-are : (before : List ℕ) (number : ℕ) → length before / 256 ≡ number + 1
    → check_bits_after before ≡ remainder_of (submultiframe number (zeroed before))
unfolding check_bits_after
check-bits-are before number e = search (rules, ne_eqb)

-- They are zeros in the first submultiframe.
check-bits-first : (before : List ℕ) → length before / 256 ≡ 0 → check_bits_after before ≡ no_remainder
unfolding check_bits_after
check-bits-first before e = rw e refl

-- They stay the same within a submultiframe.
check-bits-stay : (h : List ℕ) (x : ℕ) → (length h + 1) % 256 ≢ 0 → check_bits_after (h ++ x ∷ []) ≡ check_bits_after h
check-bits-stay h x ne =
    let l = length_push h x in
    elim (cases_eq (length h / 256) 0) [
      | inl e ↦ check-bits-first (h ++ x ∷ []) (omega arith) ∙ sym (check-bits-first h e)
      | inr some ↦
          let n = length h / 256 - 1 in
          let a : length h / 256 ≡ length h / 256 - 1 + 1 = omega (arith, some) in
          let b : length (h ++ x ∷ []) / 256 ≡ length h / 256 - 1 + 1 = omega (arith, some) in
          check-bits-are (h ++ x ∷ []) (length h / 256 - 1) b
          ∙ ap remainder_of (part-stays (octet_at no_remainder) (length h / 256 - 1) h (x ∷ []) (omega (arith, a)))
          ∙ sym (check-bits-are h (length h / 256 - 1) a)
    ]

-- Within a submultiframe a multiframer is ready for the next octet.
pub next-within : (m : Crc4Inserter) (h : List ℕ) → SendsAfter m h → length h % 256 ≢ 0 → SendsNext m h
next-within m h s ne = grind (arith, common_steps)

-- No octets have no remainder.
ended-none : remainder_of (submultiframe 0 (zeroed [])) ≡ check_bits_after []
unfolding check_bits_after each_at submultiframe remainder_of sent_bits
ended-none = refl

-- The remainder of the submultiframe that has ended is what is sent in the next one.
ended-is-before : (h : List ℕ) → length h % 256 ≡ 0
    → remainder_of (submultiframe ((length h - 1) / 256) (zeroed h)) ≡ check_bits_after h
ended-is-before [] e = ended-none
ended-is-before (x ∷ h) e = search (rules, check-bits-are)

-- At the end of a submultiframe it is ready once its remainder is that of the one before.
pub next-begins : (m : Crc4Inserter) (h : List ℕ) → SendsAfter m h → length h % 256 ≡ 0
    → SendsNext (record { place = m.place; before = m.running; running = 0 }) h
next-begins m h s e = search (rules, ended-is-before, remainder-none)

-- The remainder of the submultiframe of the octet after these, up to that octet.
abbrev pub running_at : List ℕ → Remainder
running_at h = remainder_of (submultiframe (length h / 256) (zeroed h))

-- The same of the last of these.
abbrev pub running_before : List ℕ → Remainder
running_before h = remainder_of (submultiframe ((length h - 1) / 256) (zeroed h))

-- One octet more.
pub sends-more : (m : Crc4Inserter) (h : List ℕ) (x counted place left : ℕ) → SendsNext m h
    → counted ≡ octet_at no_remainder (length h) x → place ≡ (m.place + 1) % 65536
    → left ≡ crc_number (after_octet (running_at h) counted)
    → SendsAfter (record { place = place; before = m.before; running = left }) (h ++ x ∷ [])
sends-more m h x counted place left s is at more =
    let p = s.place in
    let l = length_push h x in
    let same : length h / 256 ≡ (length (h ++ x ∷ []) - 1) / 256 = omega arith in
    record {
      place = omega arith;
      before = λ ne. s.before ∙ ap crc_number (sym (check-bits-stay h x (λ z. ne (omega (arith, z)))));
      running = grind (arith, remainder-grows (octet_at no_remainder) h x);
    }

-- The rest of a frame, or some of its octets.
pub sends-rest : (m : Crc4Inserter) (h xs : List ℕ) (left : ℕ) → SendsAfter m h
    → ((k : ℕ) → k < length xs → (length h + k) % 32 ≢ 0) → left ≡ crc_number (after_all (running_before h) xs)
    → SendsAfter (record m { place = (m.place + length xs) % 65536; running = left }) (h ++ xs)
unfolding sent_bits
sends-rest m h [] left s rest is = grind (arith, append-nil h)
sends-rest m h (x ∷ xs) left s rest is =
    let p = s.place in
    let l = length_push h x in
    let within : length h % 32 ≢ 0 = λ e. rest 0 (omega arith) (omega (arith, e)) in
    let now : (length h - 1) / 256 ≡ length h / 256 = omega (arith, within) in
    let later_at : (length (h ++ x ∷ []) - 1) / 256 ≡ length h / 256 = omega arith in
    let taken = sym (at-other no_remainder (length h) x within) in
    let next = sends-more m h x x ((m.place + 1) % 65536) _ (next-within m h s (λ e. within (omega (arith, e)))) taken
    refl refl in
    let later = sends-rest (record m {
      place = (m.place + 1) % 65536;
      running = crc_number (after_octet (running_at h) x);
    }) (h ++ x ∷ []) xs left next
    (λ k lt e. rest (suc k) (omega arith) (omega (arith, e)))
    (grind (arith, after-first (running_before h) x xs, remainder-grows (octet_at no_remainder) h x)) in
    let same : ((m.place + 1) % 65536 + length xs) % 65536 ≡ (m.place + suc (length xs)) % 65536 = omega arith in
    rw (← append_assoc h (x ∷ []) xs, ← same) later
