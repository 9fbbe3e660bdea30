use Rattle.g704_crc4.proofs.Common.{ℕ, ◌-◌, ◌≤◌, ◌++◌, List, length, take}
use Rattle.g704_crc4.specs.Receivers.{ChecksTrunk}
use Rattle.g704_crc4.proofs.counting.TrunkChecker.octets.Given as goal

-- The checker has taken the octets before this place.
abbrev pub invariant-loop-at : goal.invariant-loop-at
invariant-loop-at l = record {
  within : l.at ≤ length l.octets;
  stands : (history : List ℕ) → ChecksTrunk l.initial.self history
      → ChecksTrunk l.self (history ++ take l.at l.octets);
}

abbrev pub decreases-loop-at : goal.decreases-loop-at
decreases-loop-at l = length l.octets - l.at
