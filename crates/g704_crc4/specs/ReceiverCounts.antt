-- The counts of a trunk.
use Rattle.std.specs.Prelude.{ℕ, ◌+◌, ◌-◌, ◌^◌, Bool, true, false, not, min, if◌then◌else◌, List, [], ◌∷◌}
use Rattle.std.specs.Prelude.{◌++◌, Option, Some}
use Rattle.g704_crc4.specs.declared.receiving.ReceiverEvent.{ReceiverEvent}
use Rattle.g704_crc4.specs.declared.receiving.ReceiverEvent.TheVariants.{Found, Lost, GivenUp, Received}
use Rattle.g704_crc4.specs.declared.checking.Crc4Event.TheVariants.{Block, FarEnd}
use Rattle.g704_crc4.specs.declared.counting.ReceiverCounts.{ReceiverCounts}
use Rattle.g704_crc4.specs.Remainder.{bit_number}
use Rattle.g704_crc4.specs.Aligning.{learned}

-- How many of these octets, after others, have an event that passes.
unfoldable pub times_after : (Option ReceiverEvent → Bool) → List ℕ → List ℕ → ℕ
times_after passes before [] = 0
times_after passes before (octet ∷ octets) =
    bit_number (passes (learned before octet)) + times_after passes (before ++ octet ∷ []) octets

-- How many octets of a stream do; the count saturates.
abbrev pub times : (Option ReceiverEvent → Bool) → List ℕ → ℕ
times passes octets = min (times_after passes [] octets) (2 ^ 64 - 1)

-- A submultiframe was checked.
abbrev pub tells_block : Option ReceiverEvent → Bool
tells_block (Some (Received (Block right))) = true
tells_block (Some GivenUp) = true
tells_block _ = false

-- It is errored. So is the one by which frame alignment is given up.
abbrev pub tells_errored : Option ReceiverEvent → Bool
tells_errored (Some (Received (Block right))) = not right
tells_errored (Some GivenUp) = true
tells_errored _ = false

-- An E bit reports a submultiframe errored at the far end.
abbrev pub tells_far_end : Option ReceiverEvent → Bool
tells_far_end (Some (Received (FarEnd right))) = not right
tells_far_end _ = false

-- CRC multiframe alignment is found.
abbrev pub tells_found : Option ReceiverEvent → Bool
tells_found (Some Found) = true
tells_found _ = false

-- CRC multiframe alignment is lost, with frame alignment or because that is given up.
abbrev pub tells_lost : Option ReceiverEvent → Bool
tells_lost (Some Lost) = true
tells_lost (Some GivenUp) = true
tells_lost _ = false

-- Frame alignment is given up, with 915 of a thousand submultiframes errored.
abbrev pub tells_given_up : Option ReceiverEvent → Bool
tells_given_up (Some GivenUp) = true
tells_given_up _ = false

-- The counts of a stream.
abbrev pub receiver_counts_of : List ℕ → ReceiverCounts
receiver_counts_of octets = record {
  submultiframes = times tells_block octets;
  errored = times tells_errored octets;
  far_end_errored = times tells_far_end octets;
  found = times tells_found octets;
  lost = times tells_lost octets;
  given_up = times tells_given_up octets;
}

-- A count, one higher if an event occurs; it saturates.
abbrev pub count_with : ℕ → Bool → ℕ
count_with count more = if more then min (count + 1) (2 ^ 64 - 1) else count

-- The counts after one more octet's event.
abbrev pub receiver_counts_with : ReceiverCounts → Option ReceiverEvent → ReceiverCounts
receiver_counts_with receiver_counts learned = record {
  submultiframes = count_with receiver_counts.submultiframes (tells_block learned);
  errored = count_with receiver_counts.errored (tells_errored learned);
  far_end_errored = count_with receiver_counts.far_end_errored (tells_far_end learned);
  found = count_with receiver_counts.found (tells_found learned);
  lost = count_with receiver_counts.lost (tells_lost learned);
  given_up = count_with receiver_counts.given_up (tells_given_up learned);
}
