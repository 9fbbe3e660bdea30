-- Frames at which no multiframe begins.
use Rattle.g704_crc4.proofs.Common.{◌≡◌, ℕ, ◌+◌, ◌*◌, ◌≤◌, ◌/◌, false, List, length, ap, arith, nat_le, and_left}
use Rattle.g704_crc4.proofs.Common.{and_right, get_or_past, si_of, has_signal, begins_multiframe}

-- After the end the Si bit is zero.
pub si-past : (octets : List ℕ) (frame : ℕ) → length octets ≤ 32 * frame → si_of octets frame ≡ false
unfolding si_of
si-past octets frame le = ap (nat_le 128) (get_or_past octets (32 * frame) 0 le)

-- So no multiframe begins near the end.
pub none-past : (octets : List ℕ) (number : ℕ) → length octets / 64 ≤ number
    → begins_multiframe octets (2 * number) ≡ false
unfolding has_signal begins_multiframe
none-past octets number le =
    and_left _ _ (and_right _ _ (si-past octets (2 * number + 11) (omega arith)))
