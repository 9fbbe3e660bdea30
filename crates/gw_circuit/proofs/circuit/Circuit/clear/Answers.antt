use Rattle.gw_circuit.proofs.Common.{format_after, packet_size, heard_in, calls_in}
use Rattle.gw_circuit.proofs.Loading.{stands-cleared}
use Rattle.gw_circuit.proofs.Turns.{keeps-of}
use Rattle.gw_circuit.proofs.circuit.Circuit.clear.Goals as goal

pub returns-clause-stands : goal.returns-clause-stands
returns-clause-stands c = λ law config items stands.
    let keeps = keeps-of c.args.self.now law config items stands in
    rw c.first_sequence-self.ensures.value
    (stands-cleared c.args.self.now law config items c.new-self.result c.change.new.self stands c.new-self.ensures
    (c.change.ensures (format_after law config items) (packet_size c.args.self.now.config)
    c.args.self.now.config.prefill (heard_in law config items) (calls_in law config items)
    (rw (keeps.law_is, keeps.config_is) keeps.speech))
    (rw (← c.first_sequence-self.ensures.value) c.first_sequence-self.ensures.fits))
