-- The events of a stream whose multiframes begin at its first octet (ITU-T G.706, 4.3), and their counts.
use Rattle.std.specs.Prelude.{◌≡◌, ◌≢◌, ℕ, ◌+◌, ◌-◌, ◌*◌, ◌/◌, ◌%◌, ◌≤◌, Bool, true, not, ◌||◌, ◌==◌, nat_lt}
use Rattle.std.specs.Prelude.{◌^◌, min, if◌then◌else◌, List, [], ◌∷◌, ◌++◌, length, Option, Some, None}
use Rattle.g704_crc4.specs.declared.remainder.Remainder.{Remainder}
use Rattle.g704_crc4.specs.declared.checking.Counts.{Counts}
use Rattle.g704_crc4.specs.declared.checking.Crc4Event.{Crc4Event}
use Rattle.g704_crc4.specs.declared.checking.Crc4Event.TheVariants.{Block, FarEnd}
use Rattle.g704_crc4.specs.Remainder.{add, no_remainder, after_bits}
use Rattle.g704_crc4.specs.Multiframe.{sent_octets}
use Rattle.g704_crc4.specs.Receiving.{si_of, check_bits_in, remainder_in}

-- Two remainders are equal.
abbrev pub same : Remainder → Remainder → Bool
same a b = not (add a.c1 b.c1 || add a.c2 b.c2 || add a.c3 b.c3 || add a.c4 b.c4)

-- The check bits with the Si bit of an octet, if it is one of them.
abbrev pub check_bits_with : Remainder → ℕ → Bool → Remainder
check_bits_with bits place si =
    record {
      c1 = if place % 256 == 0 then si else bits.c1;
      c2 = if place % 256 == 64 then si else bits.c2;
      c3 = if place % 256 == 128 then si else bits.c3;
      c4 = if place % 256 == 192 then si else bits.c4;
    }

-- The event of a submultiframe's last octet, if there is a previous one.
abbrev pub block_event : Bool → Bool → Option Crc4Event
block_event begun right = if begun then Some (Block right) else None

-- The event of an E bit, in frames 13 and 15 of a multiframe.
abbrev pub far_end_event : ℕ → Bool → Option Crc4Event
far_end_event place si = if (place == 416) || (place == 480) then Some (FarEnd si) else None

-- A received submultiframe is right if the next one carries its remainder.
unfoldable pub is_right : List ℕ → ℕ → Bool
is_right octets number = same (check_bits_in octets (number + 1)) (remainder_in octets number)

-- The event of the last of these octets. The last octet of a submultiframe shows whether the one before it is
-- right; an E bit, what the far end reports.
unfoldable pub event_of : List ℕ → Option Crc4Event
event_of octets =
    if length octets % 256 == 0
    then block_event (nat_lt 256 (length octets)) (is_right octets (length octets / 256 - 2))
    else far_end_event ((length octets - 1) % 512) (si_of octets ((length octets - 1) / 32))

-- A count of errors after one more submultiframe; it saturates.
abbrev pub errors_with : ℕ → Bool → ℕ
errors_with count right = if right then count else min (count + 1) (2 ^ 64 - 1)

-- The counts with an event.
abbrev pub counts_with : Counts → Option Crc4Event → Counts
counts_with counts None = counts
counts_with counts (Some (Block right)) =
    record counts {
      blocks = min (counts.blocks + 1) (2 ^ 64 - 1);
      errored = errors_with counts.errored right;
    }
counts_with counts (Some (FarEnd right)) =
    record counts { far_end_errored = errors_with counts.far_end_errored right }

-- The counts after octets that follow others.
unfoldable pub counts_after : Counts → List ℕ → List ℕ → Counts
counts_after counts before [] = counts
counts_after counts before (octet ∷ octets) =
    counts_after (counts_with counts (event_of (before ++ octet ∷ []))) (before ++ octet ∷ []) octets

-- The counts of a stream.
abbrev pub counts_of : List ℕ → Counts
counts_of octets = counts_after (record { blocks = 0; errored = 0; far_end_errored = 0 }) [] octets

-- A submultiframe received as it was sent is right.
abbrev pub SentIsRight : Type 0
SentIsRight = (octets : List ℕ) (number : ℕ) → 256 * (number + 2) ≤ length octets
    → is_right (sent_octets octets) number ≡ true

-- A single bit error is found: the remainder is another.
abbrev pub OneErrorIsFound : Type 0
OneErrorIsFound = (before after : List Bool) (bit : Bool)
    → after_bits no_remainder (before ++ bit ∷ after) ≢ after_bits no_remainder (before ++ not bit ∷ after)
