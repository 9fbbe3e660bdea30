use Rattle.gw_switch.proofs.Common.{◌≡◌, ◌≤◌, ℕ, slice_index_or, BoxedCircuit, TakesWait}
use Rattle.gw_switch.proofs.circuits.Circuits.release_after.Given as goal

-- the first circuits were given the wait, and the others are as they were
abbrev pub invariant-loop-number : goal.invariant-loop-number
invariant-loop-number l = record {
  given : (c : ℕ) → 1 ≤ c → c ≤ l.number
      → TakesWait l.signals c l.initial.self.channels.items l.self.channels.items;
  later : (k : ℕ) (d : BoxedCircuit) → l.number ≤ k
      → slice_index_or l.self.channels.items k d ≡ slice_index_or l.initial.self.channels.items k d;
}
