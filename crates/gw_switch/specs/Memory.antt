-- The memory that a gateway has.
use Rattle.std.specs.Prelude.{◌≡◌, All, vec_capacity}
use Rattle.gw_circuit.specs.Standing.{playout_capacity}
use Rattle.gw_switch.specs.declared.circuits.BoxedCircuit.{BoxedCircuit}
use Rattle.gw_switch.specs.declared.gateway.Gateway.{Gateway}

-- it is for thirty circuits, and in each of them for 3200 words
pub record HasFixedMemory (gateway : Gateway) : Type 0 where
  pub circuits : vec_capacity gateway.circuits.channels ≡ 30
  pub words : All (λ (c : BoxedCircuit). playout_capacity c.circuit ≡ 3200) gateway.circuits.channels.items
