use Rattle.std.proofs.Common.{◌≢◌, ◌<◌, ℕ, None}
use Rattle.gw_tell.specs.Clients.{at}
use Rattle.gw_tell.proofs.teller.free_place.Given as goal

-- the places so far have clients
abbrev pub invariant-loop-place : goal.invariant-loop-place
invariant-loop-place l = (k : ℕ) → k < l.place → at l.places k ≢ None
