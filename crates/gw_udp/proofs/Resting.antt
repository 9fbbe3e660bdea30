-- No more than 799 receives rest.
use Rattle.std.proofs.Common.{◌≡◌, ◌≢◌, ◌⊎◌, ◌<◌, ◌≤◌, ◌+◌, ◌-◌, ℕ, Bool, true, false, List, inl, inr, sym, length, arith}
use Rattle.std.proofs.Math.Dec.{eqb}
use Rattle.std.proofs.lemmas.Bool.Decides.{eqb_tells}
use Rattle.std.proofs.lemmas.List.{get_or-replicate, get_or-set_other, get_or-set_same}
use Rattle.std.specs.Prelude.{replicate, slice_set, if◌then◌else◌}
use Rattle.mio.specs.declared.event.event.Event.{Event}
use Rattle.gw_udp.specs.Resting.{AreNoted, comes, rests_of}

-- .. where they are set for one circuit
pub set-few : (rests : List ℕ) (i v k : ℕ) → i < length rests → v ≤ 799 → rests_of rests k ≤ 799
    → rests_of (slice_set rests i v) k ≤ 799
set-few rests i v k below small few = go (eqb_tells i k)
  where
    go : ((eqb i k ≡ true) × (i ≡ k)) ⊎ ((eqb i k ≡ false) × (i ≢ k)) → rests_of (slice_set rests i v) k ≤ 799
    go (inl (is, same)) = rw (← same) (rw (get_or-set_same rests i v 0 below) small)
    go (inr (is, other)) = rw (get_or-set_other rests i k v 0 (λ e. other (sym e))) few

-- .. where something came
pub noted-few : (events : List Event) (rests rests' : List ℕ) → AreNoted events rests rests'
    → ((k : ℕ) → k < 30 → rests_of rests k ≤ 799) → (k : ℕ) → k < 30 → rests_of rests' k ≤ 799
noted-few events rests rests' noted few k below = rw (noted k below) (go (comes k events))
  where
    go : (b : Bool) → (if b then 0 else rests_of rests k) ≤ 799
    go true = omega arith
    go false = few k below

-- .. where as many rest for each circuit
pub all-few : (v k : ℕ) → k < 30 → v ≤ 799 → rests_of (replicate 30 v) k ≤ 799
all-few v k below small = rw (get_or-replicate 30 k v 0 below) small

-- A receive rested, so one less does.
pub one-less : (rests : List ℕ) (i : ℕ) → i < length rests → 0 < rests_of rests i
    → rests_of (slice_set rests i (rests_of rests i - 1)) i + 1 ≡ rests_of rests i
one-less rests i below some = rw (get_or-set_same rests i (rests_of rests i - 1) 0 below) (omega (arith, some))
