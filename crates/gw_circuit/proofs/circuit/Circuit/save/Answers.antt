use Rattle.gw_circuit.proofs.Common.{saved_line, saved_circuit, saved_numbers, saved_speech}
use Rattle.gw_circuit.proofs.Loading.{append-three}
use Rattle.gw_circuit.proofs.circuit.Circuit.save.Goals as goal

pub returns-clause-octets : goal.returns-clause-octets
unfolding saved_circuit
returns-clause-octets c =
    let k = c.args.self.now in
    append-three c.save-2.result _ (saved_numbers k) (saved_line k.line) (saved_speech k.speech) _ _ _
    c.in_ok-save_numbers.ensures.octets c.in_ok-save.ensures.octets c.save-2.ensures.octets
