use Rattle.gw_circuit.proofs.Common.{line_items}
use Rattle.gw_circuit.proofs.Turns.{keeps-of}
use Rattle.gw_circuit.proofs.circuit.Circuit.configure.Goals as goal

pub returns-clause-stands : goal.returns-clause-stands
returns-clause-stands c law first items stands =
    let keeps = keeps-of c.args.self.now law first items stands in
    rw (← c.released_after-signals.ensures first.role (line_items items) keeps.line)
    (c.release_after.ensures law c.args.config.now _ (rw keeps.law_is at c.in_ok-self.ensures))
