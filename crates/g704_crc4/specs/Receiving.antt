-- What a receiver finds in a stream of octets, by these alone (ITU-T G.706, 4.2 and 4.3). The multiframes of
-- the stream begin at its first octet.
use Rattle.std.specs.Prelude.{◌≡◌, ℕ, ◌+◌, ◌*◌, ◌%◌, ◌≤◌, Bool, true, false, ◌==◌, if◌then◌else◌, List}
use Rattle.std.specs.Prelude.{length, slice_index, nat_le, ◌≢◌}
use Rattle.g704_crc4.specs.declared.remainder.Remainder.{Remainder}
use Rattle.g704_crc4.specs.Remainder.{remainder_of}
use Rattle.g704_crc4.specs.Submultiframes.{each_at, submultiframe}
use Rattle.g704_crc4.specs.Multiframe.{sent_octets}

-- Bit 1 of time slot 0 of a frame, the Si bit.
unfoldable pub si_of : List ℕ → ℕ → Bool
si_of octets frame = nat_le 128 (slice_index octets (32 * frame))

-- The check bits of a submultiframe: C1 to C4 in its even frames.
unfoldable pub check_bits_in : List ℕ → ℕ → Remainder
check_bits_in octets number =
    record {
      c1 = si_of octets (8 * number);
      c2 = si_of octets (8 * number + 2);
      c3 = si_of octets (8 * number + 4);
      c4 = si_of octets (8 * number + 6);
    }

-- An octet with its check bit cleared, if it has one.
abbrev pub cleared_at : ℕ → ℕ → ℕ
cleared_at place octet = if place % 64 == 0 then octet % 128 else octet

-- The octets of a stream with check bits cleared.
abbrev pub cleared : List ℕ → List ℕ
cleared octets = each_at cleared_at 0 octets

-- The remainder of a received submultiframe.
unfoldable pub remainder_in : List ℕ → ℕ → Remainder
remainder_in octets number = remainder_of (submultiframe number (cleared octets))

-- A multiframe has the CRC multiframe alignment signal 001011 in the frames without the frame alignment
-- signal.
pub record HasSignal (octets : List ℕ) (number : ℕ) : Type 0 where
  pub bit_1 : si_of octets (16 * number + 1) ≡ false
  pub bit_2 : si_of octets (16 * number + 3) ≡ false
  pub bit_3 : si_of octets (16 * number + 5) ≡ true
  pub bit_4 : si_of octets (16 * number + 7) ≡ false
  pub bit_5 : si_of octets (16 * number + 9) ≡ true
  pub bit_6 : si_of octets (16 * number + 11) ≡ true

-- A multiframe has the E bits that came.
pub record KeepsErrorBits (octets sent : List ℕ) (number : ℕ) : Type 0 where
  pub e_1 : si_of sent (16 * number + 13) ≡ si_of octets (16 * number + 13)
  pub e_2 : si_of sent (16 * number + 15) ≡ si_of octets (16 * number + 15)

-- One octet is sent for each received.
abbrev pub LengthIsKept : Type 0
LengthIsKept = (octets : List ℕ) → length (sent_octets octets) ≡ length octets

-- Each bit except bit 1 of time slot 0 is sent unchanged.
abbrev pub OthersAreKept : Type 0
OthersAreKept = (octets : List ℕ) (place : ℕ) →
    (slice_index (sent_octets octets) place % 128 ≡ slice_index octets place % 128)
    × (place % 32 ≢ 0 → slice_index (sent_octets octets) place ≡ slice_index octets place)

-- In what is sent each whole submultiframe carries the remainder of the one before it.
abbrev pub CheckBitsAreRight : Type 0
CheckBitsAreRight = (octets : List ℕ) (number : ℕ) → 256 * (number + 2) ≤ length octets
    → check_bits_in (sent_octets octets) (number + 1) ≡ remainder_in (sent_octets octets) number

-- In what is sent each whole multiframe has the signal, and the E bits that came.
abbrev pub SignalIsSent : Type 0
SignalIsSent = (octets : List ℕ) (number : ℕ) → 512 * (number + 1) ≤ length octets
    → HasSignal (sent_octets octets) number × KeepsErrorBits octets (sent_octets octets) number
