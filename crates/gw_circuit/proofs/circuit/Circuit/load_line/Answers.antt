use Rattle.gw_circuit.proofs.Common.{refl}
use Rattle.gw_circuit.proofs.circuit.Circuit.load_line.Goals as goal

pub returns-then-loaded-clause-loaded : goal.returns-then-loaded-clause-loaded
returns-then-loaded-clause-loaded c = λ line rest role fits e.
    let told = c.load_line-line.ensures.loaded line rest role fits e in
    (refl, told.0, told.2)
