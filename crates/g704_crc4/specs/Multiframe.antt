-- Bit 1 of time slot 0 as sent (ITU-T G.704, 2.3.3 and table 5B). The frames of a stream begin at its first
-- octet; even frames carry the frame alignment signal. A multiframe has sixteen frames, a submultiframe
-- eight.
use Rattle.std.specs.Prelude.{ℕ, ◌+◌, ◌-◌, ◌/◌, ◌%◌, Bool, true, false, ◌==◌, if◌then◌else◌, List, [], ◌∷◌}
use Rattle.std.specs.Prelude.{length, slice_index_or, nat_le}
use Rattle.g704_framing.specs.Replies.{stream_replies}
use Rattle.g704_crc4.specs.declared.remainder.Remainder.{Remainder}
use Rattle.g704_crc4.specs.Remainder.{no_remainder, remainder_of}
use Rattle.g704_crc4.specs.Submultiframes.{each_at, submultiframe}

-- An octet with bit 1, the Si bit.
abbrev pub with_si : Bool → ℕ → ℕ
with_si si octet = if si then 128 + octet % 128 else octet % 128

-- The check bits C1 to C4, numbered from 0.
abbrev pub check_bit : Remainder → ℕ → Bool
check_bit bits number = slice_index_or (bits.c1 ∷ bits.c2 ∷ bits.c3 ∷ bits.c4 ∷ []) number false

-- The Si bits of the eight frames without the frame alignment signal: the CRC multiframe alignment signal
-- 001011, and both E bits as they come.
abbrev pub signal_bit : ℕ → Bool → Bool
signal_bit number came =
    slice_index_or (false ∷ false ∷ true ∷ false ∷ true ∷ true ∷ came ∷ came ∷ []) number false

-- The Si bit of a frame of a multiframe, by the one that comes.
abbrev pub si_at : Remainder → ℕ → Bool → Bool
si_at bits frame came =
    if frame % 2 == 0 then check_bit bits (frame / 2 % 4) else signal_bit (frame / 2) came

-- The octet sent at a place of the stream, with these check bits.
unfoldable pub octet_at : Remainder → ℕ → ℕ → ℕ
octet_at bits place octet =
    if place % 32 == 0 then with_si (si_at bits (place / 32 % 16) (nat_le 128 octet)) octet else octet

-- The octets of a stream as sent, with check bits replaced by zeros.
abbrev pub zeroed : List ℕ → List ℕ
zeroed octets = each_at (octet_at no_remainder) 0 octets

-- The check bits sent after these octets: the remainder of the submultiframe before, with its check bits
-- replaced by zeros. The first submultiframe has none before it.
unfoldable pub check_bits_after : List ℕ → Remainder
check_bits_after before =
    if length before / 256 == 0
    then no_remainder
    else remainder_of (submultiframe (length before / 256 - 1) (zeroed before))

-- The octet sent for the one after these.
unfoldable pub sent_octet : List ℕ → ℕ → ℕ
sent_octet before octet = octet_at (check_bits_after before) (length before) octet

-- The octets sent for a whole stream.
abbrev pub sent_octets : List ℕ → List ℕ
sent_octets octets = stream_replies sent_octet octets
