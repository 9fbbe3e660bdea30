use Rattle.std.proofs.Common.{◌≡◌, ◌≤◌, ◌<◌, ℕ, IfSome, IfNone}
use Rattle.gw_trunk.specs.Clients.{at, rank}
use Rattle.gw_trunk.proofs.clients.place_for_one.Given as goal

-- The place that was found has the lowest rank so far; where none was found each has the last one.
abbrev pub invariant-loop-place : goal.invariant-loop-place
invariant-loop-place l = record {
  some : IfSome l.found
      (λ place. (place < 8) × (rank (at l.places place) ≡ l.least) × (l.least < 18446744073709551615));
  none : IfNone l.found (l.least ≡ 18446744073709551615);
  lowest : (k : ℕ) → k < l.place → l.least ≤ rank (at l.places k);
}
