use Rattle.gw_circuit.proofs.Common.{refl}
use Rattle.gw_circuit.proofs.Loading.{same-coder}
use Rattle.gw_circuit.proofs.circuit.Circuit.code.Goals as goal

pub returns : goal.returns
returns c = same-coder _ c.args.self.now c.code.ensures refl refl refl refl refl
