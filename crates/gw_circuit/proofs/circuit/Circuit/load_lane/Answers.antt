use Rattle.gw_circuit.proofs.Common.{refl}
use Rattle.gw_circuit.proofs.Loading.{same-coder}
use Rattle.gw_circuit.proofs.circuit.Circuit.load_lane.Goals as goal

pub returns-clause-state : goal.returns-clause-state
returns-clause-state c = same-coder _ c.args.self.now c.load_lane.ensures.state refl refl refl refl refl
