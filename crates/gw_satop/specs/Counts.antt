-- What an emulated circuit counts (module `counts`).
use Rattle.std.specs.Prelude.{◌≡◌, ◌≢◌, ◌⊎◌, ◌<◌, ◌≤◌, ◌+◌, ◌-◌, ◌^◌, ◌&&◌, ◌++◌, not, nat_lt, min}
use Rattle.std.specs.Prelude.{ℕ, Bool, List, length, count_by, if◌then◌else◌}
use Rattle.std.specs.Prelude.{Option, Some, None}
use Rattle.satop_packet.specs.declared.Control.{Control}
use Rattle.satop_playout.specs.declared.ArrivalFault.{ArrivalFault}
use Rattle.satop_playout.specs.declared.ArrivalFault.TheVariants.{OtherSize, NotBegun, Late, TooFar, Repeat}
use Rattle.gw_satop.specs.declared.counts.Counts.{Counts}
use Rattle.gw_satop.specs.declared.line.DatagramOutcome.{DatagramOutcome}
use Rattle.gw_satop.specs.declared.line.DatagramOutcome.TheVariants as outcomes
use Rattle.gw_satop.specs.declared.packet.PacketFault.{PacketFault}
use Rattle.gw_satop.specs.declared.packet.PacketFault.TheVariants as malformed

-- nothing is counted
abbrev pub no_counts : Counts
no_counts = record {
  received = 0;
  sent = 0;
  unsent = 0;
  lost = 0;
  filled = 0;
  late = 0;
  repeated = 0;
  too_far = 0;
  restarts = 0;
  silences = 0;
  ticks = 0;
  with_l = 0;
  with_r = 0;
  short = 0;
  no_rtp = 0;
  no_control = 0;
  other_length = 0;
  other_size = 0;
}

-- one more if this holds, up to the greatest number of 64 bits
abbrev pub more_if : Bool → ℕ → ℕ
more_if holds n = if holds then min (n + 1) (2 ^ 64 - 1) else n

abbrev pub more : ℕ → ℕ
more n = min (n + 1) (2 ^ 64 - 1)

-- the counts after a datagram that is no packet of the circuit
abbrev pub counts_by_fault : Counts → PacketFault → Counts
counts_by_fault c malformed.Short = record c { short = more c.short }
counts_by_fault c malformed.NoRtp = record c { no_rtp = more c.no_rtp }
counts_by_fault c malformed.NoControl = record c { no_control = more c.no_control }
counts_by_fault c malformed.OtherLength = record c { other_length = more c.other_length }
counts_by_fault c malformed.OtherSize = record c { other_size = more c.other_size }

-- the counts after a packet that is refused
abbrev pub counts_by_refusal : Counts → ArrivalFault → Counts
counts_by_refusal c Late = record c { received = more c.received; late = more c.late }
counts_by_refusal c TooFar = record c { received = more c.received; too_far = more c.too_far }
counts_by_refusal c Repeat = record c { received = more c.received; repeated = more c.repeated }
counts_by_refusal c OtherSize = record c { received = more c.received }
counts_by_refusal c NotBegun = record c { received = more c.received }

-- The counts after a datagram of which this became. The first stream is no restart.
abbrev pub counts_by_outcome : Counts → DatagramOutcome → Counts
counts_by_outcome c (outcomes.PacketFault fault) = counts_by_fault c fault
counts_by_outcome c outcomes.Accepted = record c { received = more c.received }
counts_by_outcome c (outcomes.Began first) = record c {
  received = more c.received;
  restarts = more_if (nat_lt 0 c.received) c.restarts;
}
counts_by_outcome c (outcomes.Refused fault) = counts_by_refusal c fault

-- .. and after bits L and R of its packet, if it is one (RFC 4553, 4.3)
abbrev pub counts_by_bits : Counts → Option Control → Counts
counts_by_bits c None = c
counts_by_bits c (Some control) = record c {
  with_l = more_if control.lost c.with_l;
  with_r = more_if control.remote c.with_r;
}

-- the counts after a play: whether the packet was there, whether a later one was, and whether it was silent
abbrev pub counts_by_play : Counts → Bool → Bool → Bool → Counts
counts_by_play c is_there later silent = record c {
  filled = more_if (not is_there) c.filled;
  lost = more_if (not is_there && later) c.lost;
  ticks = more_if silent c.ticks;
}

-- the counts after a packet that the system was given, and took or not
abbrev pub counts_by_sending : Counts → Bool → Counts
counts_by_sending c taken = record c {
  sent = more_if taken c.sent;
  unsent = more_if (not taken) c.unsent;
}

-- How many of the packets that were sent the system took, and how many not, each up to the greatest number of
-- 64 bits. They are the last that a far end was given, one for each flag.
pub record CountsSends (counts : Counts) (flags taken : List Bool) : Type 0 where
  pub earlier : List Bool
  pub sends : List Bool
  pub taken_are : taken ≡ earlier ++ sends
  pub one_each : length sends ≡ length flags
  pub sent_is : counts.sent ≡ min (count_by (λ t. t) sends) (2 ^ 64 - 1)
  pub unsent_is : counts.unsent ≡ min (count_by not sends) (2 ^ 64 - 1)

-- Counts are reported if they are others than those that were reported last, and a second has passed since.
abbrev pub ReportsChanges : ℕ → Counts → Counts × ℕ → Counts × ℕ → Type 0
ReportsChanges now counts last result =
    ((result ≡ last) × ((counts ≡ last.0) ⊎ (now - last.1 < 1000000)))
    ⊎ ((result ≡ (counts, now)) × (counts ≢ last.0) × (1000000 ≤ now - last.1))
