-- What the octets of a checkpoint begin with, and what is behind its head.
use Rattle.std.proofs.Common.{◌≡◌, ◌≤◌, ℕ, List, length, take, drop, refl, arith}
use Rattle.gw_log.specs.Checkpoints.{checkpoint, checkpoint_mark}

-- a checkpoint has a head of 12 octets
pub checkpoint_long : (place : ℕ) (state : List ℕ) → 12 ≤ length (checkpoint place state)
unfolding checkpoint
checkpoint_long place state = omega arith

-- this begins with the mark
pub checkpoint_begins : (place : ℕ) (state : List ℕ) → take 4 (checkpoint place state) ≡ checkpoint_mark
unfolding checkpoint
checkpoint_begins place state = refl

-- .. and behind it is the state
pub checkpoint_behind : (place : ℕ) (state : List ℕ) → drop 12 (checkpoint place state) ≡ state
unfolding checkpoint
checkpoint_behind place state = refl
