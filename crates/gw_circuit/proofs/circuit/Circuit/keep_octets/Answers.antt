use Rattle.gw_circuit.proofs.Common.{refl}
use Rattle.gw_circuit.proofs.Loading.{same-coder}
use Rattle.gw_circuit.proofs.circuit.Circuit.keep_octets.Goals as goal

pub returns : goal.returns
returns c = same-coder _ c.args.self.now c.keep_octets.ensures refl refl refl refl refl
