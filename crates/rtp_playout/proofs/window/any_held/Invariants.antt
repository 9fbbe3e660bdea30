use Rattle.std.proofs.Common.{◌≡◌, ◌≤◌, ◌<◌, ℕ, None, true, false, slice_index_or}
use Rattle.std.specs.Prelude.{is_some}
use Rattle.rtp_playout.proofs.window.any_held.Given as goal

abbrev pub invariant-loop-place : goal.invariant-loop-place
invariant-loop-place l =
    (l.is_held ≡ false → (k : ℕ) → l.from ≤ k → k < l.place → slice_index_or l.places k None ≡ None)
    × (l.is_held ≡ true → (k : ℕ) × (l.from ≤ k) × (k < l.end) × (is_some (slice_index_or l.places k None) ≡ true))
