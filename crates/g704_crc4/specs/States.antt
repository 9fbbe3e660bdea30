-- The histories of the two machines: their octets.
use Rattle.std.specs.Prelude.{◌≡◌, ◌≢◌, ℕ, ◌+◌, ◌-◌, ◌*◌, ◌/◌, ◌%◌, ◌<◌, ◌≤◌, nat_le, List, length}
use Rattle.g704_crc4.specs.declared.sending.Crc4Inserter.{Crc4Inserter}
use Rattle.g704_crc4.specs.declared.checking.Checker.{Checker}
use Rattle.g704_crc4.specs.Remainder.{remainder_of, crc_number}
use Rattle.g704_crc4.specs.Submultiframes.{submultiframe}
use Rattle.g704_crc4.specs.Multiframe.{zeroed, check_bits_after}
use Rattle.g704_crc4.specs.Receiving.{si_of, cleared, remainder_in}

-- A multiframer after these octets: their number modulo 2^16; the remainder of the last octet's
-- submultiframe, as a number; and that of the one before it, if more of its octets follow.
pub record SendsAfter (multiframer : Crc4Inserter) (history : List ℕ) : Type 0 where
  pub place : multiframer.place ≡ length history % 65536
  pub before : length history % 256 ≢ 0 → multiframer.before ≡ crc_number (check_bits_after history)
  pub running :
      multiframer.running ≡ crc_number (remainder_of (submultiframe ((length history - 1) / 256)
      (zeroed history)))

-- A multiframer ready for the octet after these: the remainders of that octet's submultiframe so far, and of
-- the one before it.
pub record SendsNext (multiframer : Crc4Inserter) (history : List ℕ) : Type 0 where
  pub place : multiframer.place ≡ length history % 65536
  pub before : multiframer.before ≡ crc_number (check_bits_after history)
  pub running :
      multiframer.running ≡ crc_number (remainder_of (submultiframe (length history / 256) (zeroed history)))

-- A checker after these octets: the place of the next octet; the remainders of the previous submultiframe, if
-- any, and of this one so far; and the check bits of this one so far.
pub record ChecksAfter (checker : Checker) (history : List ℕ) : Type 0 where
  pub place : checker.place ≡ length history % 512
  pub begun : checker.begun ≡ nat_le 256 (length history)
  pub before : 256 ≤ length history → checker.before ≡ remainder_in history (length history / 256 - 1)
  pub running : checker.running
      ≡ crc_number (remainder_of (submultiframe (length history / 256) (cleared history)))
  pub c1 : 0 < length history % 256 → checker.check_bits.c1 ≡ si_of history (8 * (length history / 256))
  pub c2 : 64 < length history % 256 → checker.check_bits.c2 ≡ si_of history (8 * (length history / 256) + 2)
  pub c3 : 128 < length history % 256 → checker.check_bits.c3 ≡ si_of history (8 * (length history / 256) + 4)
  pub c4 : 192 < length history % 256 → checker.check_bits.c4 ≡ si_of history (8 * (length history / 256) + 6)

-- This many octets from this place of a multiframe show nothing: they are in one frame, and are neither its
-- first octet nor the last one of its submultiframe.
pub record IsQuiet (place count : ℕ) : Type 0 where
  pub begun : 0 < count → place % 32 ≢ 0
  pub in_frame : place % 32 + count ≤ 32
  pub in_submultiframe : place % 256 + count < 256
