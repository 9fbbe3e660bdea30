-- The E bits that report errored submultiframes to the far end (ITU-T G.704, 2.3.3.4): bit 1 of frames 13 and
-- 15 of a multiframe, each 0 for one errored submultiframe that was received, otherwise 1. Multiframes begin
-- at the first octet.
use Rattle.std.specs.Prelude.{◌≡◌, ℕ, ◌+◌, ◌-◌, ◌*◌, ◌%◌, ◌^◌, ◌≤◌, Bool, not, ◌&&◌, ◌||◌, ◌==◌, min}
use Rattle.std.specs.Prelude.{if◌then◌else◌, List, [], ◌∷◌, ◌++◌}
use Rattle.g704_crc4.specs.declared.reporting.EBitReporter.{EBitReporter}
use Rattle.g704_crc4.specs.Remainder.{bit_number}
use Rattle.g704_crc4.specs.Multiframe.{with_si}

-- What comes: an octet of the trunk that is sent, or a number of errored submultiframes that were received.
pub data SenderInput : Type 0 where
  Octet : (octet : ℕ) → SenderInput
  Errored : (count : ℕ) → SenderInput

-- How many octets came.
unfoldable pub octet_count : List SenderInput → ℕ
octet_count [] = 0
octet_count (Octet octet ∷ arrivals) = octet_count arrivals + 1
octet_count (Errored count ∷ arrivals) = octet_count arrivals

-- How many errored submultiframes came.
unfoldable pub errored_in_all : List SenderInput → ℕ
errored_in_all [] = 0
errored_in_all (Octet octet ∷ arrivals) = errored_in_all arrivals
errored_in_all (Errored count ∷ arrivals) = count + errored_in_all arrivals

-- The octet at this place of the stream has an E bit: frames have 32 octets, multiframes sixteen frames.
unfoldable pub has_e_bit : ℕ → Bool
has_e_bit place = (place % 512 == 32 * 13) || (place % 512 == 32 * 15)

-- The errored submultiframes not yet reported, if this many were not at this place. Each E bit reports one.
-- The number saturates.
unfoldable pub unreported_after : ℕ → ℕ → List SenderInput → ℕ
unreported_after left place [] = left
unreported_after left place (Octet octet ∷ arrivals) =
    unreported_after (if has_e_bit place then left - 1 else left) (place + 1) arrivals
unreported_after left place (Errored count ∷ arrivals) =
    unreported_after (min (left + count) (2 ^ 32 - 1)) place arrivals

-- The errored submultiframes not yet reported.
abbrev pub unreported : List SenderInput → ℕ
unreported arrivals = unreported_after 0 0 arrivals

-- The octet sent for the one after these.
unfoldable pub octet_with_e : List SenderInput → ℕ → ℕ
octet_with_e before octet =
    if has_e_bit (octet_count before) then with_si (unreported before == 0) octet else octet

-- The octet after these has an E bit that is sent as 0.
unfoldable pub is_reported_by : List SenderInput → Bool
is_reported_by before = has_e_bit (octet_count before) && not (unreported before == 0)

-- The E bits sent as 0 for these, after others.
unfoldable pub zeros_after : List SenderInput → List SenderInput → ℕ
zeros_after before [] = 0
zeros_after before (Octet octet ∷ arrivals) =
    bit_number (is_reported_by before) + zeros_after (before ++ Octet octet ∷ []) arrivals
zeros_after before (Errored count ∷ arrivals) = zeros_after (before ++ Errored count ∷ []) arrivals

-- Each errored submultiframe is reported by one E bit or is not yet reported, up to 2^32 - 1 of them.
abbrev pub EachIsReported : Type 0
EachIsReported = (arrivals : List SenderInput) → errored_in_all arrivals ≤ 2 ^ 32 - 1
    → zeros_after [] arrivals + unreported arrivals ≡ errored_in_all arrivals

-- Without an errored submultiframe each E bit is sent as 1.
abbrev pub NoneIsReported : Type 0
NoneIsReported = (arrivals : List SenderInput) → errored_in_all arrivals ≡ 0 → unreported arrivals ≡ 0

-- A sender of E bits after these: the errored submultiframes not yet reported.
pub record ReportsAfter (bits : EBitReporter) (history : List SenderInput) : Type 0 where
  pub unreported : bits.unreported ≡ unreported_after 0 0 history
