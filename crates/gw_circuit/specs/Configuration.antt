-- The limits of a circuit's configuration.
use Rattle.std.specs.Prelude.{◌≤◌, ℕ}
use Rattle.rtp_pack.specs.PacketTime.{IsPacketTime}

-- a payload type of seven bits (RFC 3550, 5.1), a packet time, and a prefill that the playout has room for
abbrev pub IsWithinLimits : ℕ → ℕ → ℕ → Type 0
IsWithinLimits payload_type ptime prefill = (payload_type ≤ 127) × IsPacketTime ptime × (prefill ≤ 1600)
