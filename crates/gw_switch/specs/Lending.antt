-- One circuit is lent, to be changed.
use Rattle.std.specs.Prelude.{◌≡◌, ℕ, ◌-◌, slice_index_or}
use Rattle.std.specs.Borrow.{Lends, MutBor, Fml}
use Rattle.std.specs.Vec.{with_item}
use Rattle.gw_circuit.specs.declared.circuit.Circuit.{Circuit}
use Rattle.gw_circuit.specs.contracts.circuit.Circuit.{the_row as circuit_row}
use Rattle.gw_switch.specs.declared.circuits.BoxedCircuit.{BoxedCircuit}
use Rattle.gw_switch.specs.declared.circuits.Circuits.{Circuits}
use Rattle.gw_switch.specs.contracts.circuits.Circuits.{the_row}

-- this is circuit c
abbrev pub IsAt : Circuits → ℕ → Circuit → Type 0
IsAt circuits c circuit =
    (d : BoxedCircuit) → circuit ≡ (slice_index_or circuits.channels.items (c - 1) d).circuit

-- the circuits, with circuit c as it is here and all others as they were
abbrev pub with_circuit : Circuits → ℕ → Circuit → Circuits
with_circuit circuits c circuit =
    record circuits { channels = with_item circuits.channels (c - 1) (record { circuit = circuit }) }

-- circuit c is lent: the circuits end with it as it was left, and with all others as they were
abbrev pub LendsCircuit : MutBor Circuits → ℕ → MutBor Circuit → Fml
LendsCircuit circuits c r = Lends the_row circuit_row circuits r (with_circuit circuits.now c)
