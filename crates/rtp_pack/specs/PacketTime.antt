-- How long a packet of speech lasts (RFC 3551, 4.2).
use Rattle.std.specs.Prelude.{◌≡◌, ◌≤◌, ◌%◌, ℕ}

-- 10, 20 or 30 ms
pub record IsPacketTime (ms : ℕ) : Type 0 where
  pub least : 10 ≤ ms
  pub most : ms ≤ 30
  pub whole : ms % 10 ≡ 0
