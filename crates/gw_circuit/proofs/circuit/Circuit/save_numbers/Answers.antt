use Rattle.gw_circuit.proofs.Common.{saved_clocks, saved_counts}
use Rattle.gw_circuit.proofs.Loading.{append-two}
use Rattle.gw_circuit.proofs.circuit.Circuit.save_numbers.Goals as goal

pub returns-clause-octets : goal.returns-clause-octets
returns-clause-octets c =
    let k = c.args.self.now in
    append-two c.save_counts.result _ (saved_clocks k.clock k.sequence)
    (saved_counts k.sent_count k.received k.dropped) _ _ c.in_ok-save_clocks.ensures.octets c.save_counts.ensures.octets
