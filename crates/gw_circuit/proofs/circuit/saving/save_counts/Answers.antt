use Rattle.saved_octets.specs.Numbers.{four_octets}
use Rattle.gw_circuit.proofs.Loading.{append-three}
use Rattle.gw_circuit.proofs.circuit.saving.save_counts.Goals as goal

pub returns-clause-octets : goal.returns-clause-octets
returns-clause-octets c =
    append-three c.append_u32-3.result _ (four_octets c.args.sent) (four_octets c.args.received)
    (four_octets c.args.dropped) _ _ _ c.in_ok-append_u32.ensures.octets c.in_ok-append_u32-2.ensures.octets
    c.append_u32-3.ensures.octets
