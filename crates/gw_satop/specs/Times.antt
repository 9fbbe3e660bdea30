-- Times of packets, in microseconds.
use Rattle.std.specs.Prelude.{◌≤◌, ℕ}

-- a packet lasts 125 microseconds a frame, of which it has 1 to 40
abbrev pub IsPacketMicros : ℕ → Type 0
IsPacketMicros packet = (125 ≤ packet) × (packet ≤ 5000)
