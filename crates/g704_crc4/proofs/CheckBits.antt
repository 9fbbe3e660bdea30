-- The check bits and the signal that a receiver finds in what is sent.
use Rattle.g704_crc4.proofs.Common.{◌≡◌, ℕ, ◌+◌, ◌*◌, ◌<◌, ◌≤◌, ◌/◌, ◌%◌, Bool, false, List, [], ◌∷◌, ◌++◌, rules}
use Rattle.g704_crc4.proofs.Common.{length, take, drop, refl, sym, ap, ◌∙◌, arith, nat_le, ◌≢◌, ◌==◌, cases_eq, eq-eqb}
use Rattle.g704_crc4.proofs.Common.{ne_eqb, length-take-le, length_push, replies_after, Remainder, no_remainder}
use Rattle.g704_crc4.proofs.Common.{remainder_of, each_at, submultiframe, with_si, check_bit, si_at, octet_at, zeroed}
use Rattle.g704_crc4.proofs.Common.{check_bits_after, sent_octet, sent_octets, si_of, check_bits_in, cleared_at}
use Rattle.g704_crc4.proofs.Common.{remainder_in, CheckBitsAreRight, SignalIsSent}
use Rattle.std.specs.Prelude.{cond}
use Rattle.std.proofs.lemmas.List.{take-append-drop}
use Rattle.g704_crc4.proofs.Submultiframes.{part-stays}
use Rattle.g704_crc4.proofs.Sent.{with-low, at-frame, at-other, si-sent}
use Rattle.g704_crc4.proofs.Steps.{check-bits-are}

-- In frames of odd number no check bit is sent.
at-odd : (a b : Remainder) (frame : ℕ) (came : Bool) → frame % 2 ≢ 0 → si_at a frame came ≡ si_at b frame came
at-odd a b frame came odd = rw (ne_eqb (frame % 2) 0 odd) refl

-- In frames of even number the check bits are sent in turn.
at-even : (bits : Remainder) (frame number : ℕ) (came : Bool) → frame % 2 ≡ 0 → frame / 2 % 4 ≡ number
    → si_at bits frame came ≡ check_bit bits number
at-even bits frame number came even is = rw (eq-eqb (frame % 2) 0 even, is) refl

-- Check bits of no remainder are zeros.
all-zeros : (number : ℕ) → check_bit no_remainder number ≡ false
all-zeros number = search rules

-- An octet that is sent without a check bit is sent alike whatever the check bits are.
at-same : (a b : Remainder) (place : ℕ) (x : ℕ) → place % 64 ≢ 0 → octet_at a place x ≡ octet_at b place x
at-same a b place x ne = search (rules, cases_eq, at-frame, at-odd, at-other)

-- An octet that is sent with a check bit, and that bit replaced by zero.
at-check-bit : (bits : Remainder) (place : ℕ) (x : ℕ) → place % 64 ≡ 0
    → octet_at bits place x % 128 ≡ octet_at no_remainder place x
at-check-bit bits place x e =
    let frame = place / 32 % 16 in
    ap (λ o. o % 128) (at-frame bits place x (omega arith)) ∙ with-low (si_at bits frame (nat_le 128 x)) x
    ∙ sym (at-frame no_remainder place x (omega arith)
    ∙ ap (λ si. with_si si x) (at-even no_remainder frame (frame / 2 % 4) (nat_le 128 x) (omega arith) refl
    ∙ all-zeros (frame / 2 % 4)))

-- What is sent, its check bit replaced by zero, is what the sender counts.
clear-one : (bits : Remainder) (place : ℕ) (x : ℕ)
    → cond (place % 64 == 0) (octet_at bits place x % 128) (octet_at bits place x) ≡ octet_at no_remainder place x
clear-one bits place x = search (rules, cases_eq, eq-eqb, at-check-bit, ne_eqb, at-same)

-- So the receiver counts what the sender did.
cleared-sent : (before octets : List ℕ)
    → each_at cleared_at (length before) (replies_after sent_octet before octets)
    ≡ each_at (octet_at no_remainder) (length before) octets
unfolding each_at replies_after sent_octet
cleared-sent before [] = refl
cleared-sent before (x ∷ octets) =
    let l : length (before ++ x ∷ []) ≡ length before + 1 = length_push before x in
    let rest = replies_after sent_octet (before ++ x ∷ []) octets in
    ap (λ o. o ∷ each_at cleared_at (length before + 1) rest) (clear-one (check_bits_after before) (length before) x)
    ∙ ap (λ s. octet_at no_remainder (length before) x ∷ s) (ap (λ n. each_at cleared_at n rest) (sym l)
    ∙ cleared-sent (before ++ x ∷ []) octets ∙ ap (λ n. each_at (octet_at no_remainder) n octets) l)

-- The check bits that are sent in a submultiframe are the remainder of the one before it.
check-bits-there : (octets : List ℕ) (n m : ℕ) → 256 * (n + 1) ≤ m → m < 256 * (n + 2) → m ≤ length octets
    → check_bits_after (take m octets) ≡ remainder_of (submultiframe n (zeroed octets))
check-bits-there octets n m from below within =
    let l = length-take-le m octets within in
    check-bits-are (take m octets) n (omega arith)
    ∙ ap remainder_of (sym (part-stays (octet_at no_remainder) n (take m octets) (drop m octets) (omega arith))
    ∙ ap (λ all. submultiframe n (zeroed all)) (take-append-drop m octets))

-- A remainder by its bits.
pub by-bits : (a b c d : Bool) (w : Remainder) → a ≡ w.c1 → b ≡ w.c2 → c ≡ w.c3 → d ≡ w.c4
    → record { c1 = a; c2 = b; c3 = c; c4 = d } ≡ w
by-bits a b c d w p q r s = rw (p, q, r, s) refl

-- A check bit of a submultiframe, in its frame.
check-bit-sent : (octets : List ℕ) (n number : ℕ) → number < 4 → 256 * (n + 2) ≤ length octets
    → si_of (sent_octets octets) (8 * (n + 1) + 2 * number)
    ≡ check_bit (remainder_of (submultiframe n (zeroed octets))) number
check-bit-sent octets n number lt le =
    let frame = 8 * (n + 1) + 2 * number in
    si-sent octets frame (omega arith)
    ∙ ap (λ w. si_at w (frame % 16) (si_of octets frame))
    (check-bits-there octets n (32 * frame) (omega arith) (omega arith) (omega arith))
    ∙ at-even (remainder_of (submultiframe n (zeroed octets))) (frame % 16) number (si_of octets frame)
    (omega arith) (omega arith)

-- A receiver finds every whole submultiframe right.
pub right_check_bits : CheckBitsAreRight
unfolding check_bits_in remainder_in
right_check_bits octets n le =
    let first : 8 * (n + 1) ≡ 8 * (n + 1) + 0 = omega arith in
    by-bits _ _ _ _ (remainder_of (submultiframe n (zeroed octets)))
    (ap (si_of (sent_octets octets)) first ∙ check-bit-sent octets n 0 (omega arith) le)
    (check-bit-sent octets n 1 (omega arith) le)
    (check-bit-sent octets n 2 (omega arith) le)
    (check-bit-sent octets n 3 (omega arith) le)
    ∙ ap remainder_of (ap (submultiframe n) (sym (cleared-sent [] octets)))

-- The Si bit of a frame of a whole multiframe.
in-multiframe : (octets : List ℕ) (n frame : ℕ) → frame < 16 → 512 * (n + 1) ≤ length octets
    → si_of (sent_octets octets) (16 * n + frame)
    ≡ si_at (check_bits_after (take (32 * (16 * n + frame)) octets)) frame (si_of octets (16 * n + frame))
in-multiframe octets n frame lt le = grind (arith, si-sent octets (16 * n + frame) (omega arith))

-- A receiver finds the multiframe alignment signal in every whole multiframe.
pub right_signal : SignalIsSent
right_signal octets n le = search (rules, in-multiframe)
