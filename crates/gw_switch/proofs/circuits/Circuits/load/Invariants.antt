use Rattle.gw_switch.proofs.Common.{◌≡◌, ◌++◌, ℕ, ◌≤◌, List, take, drop, slice_index_or, BoxedCircuit, saved_circuits}
use Rattle.gw_switch.proofs.Common.{AreAlike}
use Rattle.gw_switch.proofs.circuits.Circuits.load.Given as goal

abbrev pub invariant-loop-number : goal.invariant-loop-number
invariant-loop-number l = record {
  read : l.initial.octets ≡ saved_circuits (take l.number l.self.channels.items) ++ l.octets;
  later : (k : ℕ) (d : BoxedCircuit) → l.number ≤ k
      → slice_index_or l.self.channels.items k d ≡ slice_index_or l.initial.self.channels.items k d;
  loaded : (saved : List BoxedCircuit) (rest : List ℕ) → AreAlike l.initial.self.channels.items saved
      → l.initial.octets ≡ saved_circuits saved ++ rest
      → (take l.number l.self.channels.items ≡ take l.number saved)
      × (l.octets ≡ saved_circuits (drop l.number saved) ++ rest);
}
