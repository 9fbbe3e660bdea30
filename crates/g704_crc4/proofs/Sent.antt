-- The octets that are sent, one for each that comes.
use Rattle.g704_crc4.proofs.Common.{◌≡◌, ℕ, zero, suc, ◌+◌, ◌*◌, ◌<◌, ◌/◌, ◌%◌, Bool, true, false, List, [], ◌∷◌, ◌++◌}
use Rattle.g704_crc4.proofs.Common.{rules, length, length_push, take, refl, sym, ap, ◌∙◌, arith, append_assoc, ◌≢◌}
use Rattle.g704_crc4.proofs.Common.{slice_index, nat_le, cases_eq, eq-eqb, ne_eqb, le-leb, lt-leb, cases_lt}
use Rattle.g704_crc4.proofs.Common.{get_or_past, length-take-le, replies_after, Remainder, with_si, si_at, octet_at}
use Rattle.g704_crc4.proofs.Common.{check_bits_after, sent_octet, sent_octets, si_of, LengthIsKept, OthersAreKept}
use Rattle.std.proofs.lemmas.List.{append-nil}
use Rattle.g704_framing.proofs.Replies.{length-replies}

-- One octet is sent for each that comes.
pub kept_length : LengthIsKept
kept_length octets = length-replies sent_octet [] octets

-- Setting bit 1 changes no other bit.
pub with-low : (si : Bool) (x : ℕ) → with_si si x % 128 ≡ x % 128
with-low true x = omega arith
with-low false x = omega arith

-- Bit 1 is what it was set to.
with-high : (si : Bool) (x : ℕ) → nat_le 128 (with_si si x) ≡ si
with-high true x = le-leb 128 (128 + x % 128) (omega arith)
with-high false x = lt-leb 128 (x % 128) (omega arith)

-- The first octet of a frame is sent with its Si bit.
pub at-frame : (bits : Remainder) (place : ℕ) (x : ℕ) → place % 32 ≡ 0
    → octet_at bits place x ≡ with_si (si_at bits (place / 32 % 16) (nat_le 128 x)) x
unfolding octet_at
at-frame bits place x e = rw (eq-eqb (place % 32) 0 e) refl

-- Any other octet is sent as it came.
pub at-other : (bits : Remainder) (place : ℕ) (x : ℕ) → place % 32 ≢ 0 → octet_at bits place x ≡ x
unfolding octet_at
at-other bits place x ne = rw (ne_eqb (place % 32) 0 ne) refl

-- So are octets that begin no frame.
pub sent-same : (before octets : List ℕ) → ((k : ℕ) → k < length octets → (length before + k) % 32 ≢ 0)
    → replies_after sent_octet before octets ≡ octets
unfolding replies_after sent_octet
sent-same before [] rest = refl
sent-same before (x ∷ octets) rest =
    let here = at-other (check_bits_after before) (length before) x (λ e. rest 0 (omega arith) (omega (arith, e))) in
    rw here (ap (λ xs. x ∷ xs) (sent-same (before ++ x ∷ []) octets
    (λ k lt e. rest (suc k) (omega arith) (omega (arith, e, length_push before x)))))

-- Each octet that is sent, by those before it.
sent-at : (before octets : List ℕ) (i : ℕ) → i < length octets
    → slice_index (replies_after sent_octet before octets) i
    ≡ sent_octet (before ++ take i octets) (slice_index octets i)
unfolding replies_after
sent-at before [] i lt = absurd (omega arith)
sent-at before (x ∷ octets) zero lt = ap (λ b. sent_octet b x) (sym (append-nil before))
sent-at before (x ∷ octets) (suc i) lt =
    sent-at (before ++ x ∷ []) octets i (omega arith)
    ∙ ap (λ b. sent_octet b (slice_index octets i)) (append_assoc before (x ∷ []) (take i octets))

-- Each octet that is sent, by its place.
sent-place : (octets : List ℕ) (i : ℕ) → i < length octets
    → slice_index (sent_octets octets) i ≡ octet_at (check_bits_after (take i octets)) i (slice_index octets i)
unfolding sent_octet
sent-place octets i lt = cc (sent-at [] octets i lt, length-take-le i octets (omega arith))

-- The Si bit of a frame as it is sent.
pub si-sent : (octets : List ℕ) (frame : ℕ) → 32 * frame < length octets
    → si_of (sent_octets octets) frame
    ≡ si_at (check_bits_after (take (32 * frame) octets)) (frame % 16) (si_of octets frame)
unfolding si_of
si-sent octets frame lt = search (rules, sent-place, at-frame, with-high)

-- The other bits of an octet stay as they are.
low-kept : (bits : Remainder) (place : ℕ) (x : ℕ) → octet_at bits place x % 128 ≡ x % 128
low-kept bits place x = search (rules, cases_eq, at-frame, with-low, at-other)

-- Each bit but bit 1 of time slot 0 is sent as it came.
pub kept_others : OthersAreKept
kept_others octets place = search (rules, cases_lt, sent-place, low-kept, at-other, get_or_past, length-replies)
