use Rattle.gw_circuit.proofs.Turns.{stands-waiting}
use Rattle.gw_circuit.proofs.circuit.Circuit.release_after.Goals as goal

pub returns : goal.returns
returns c law config items stands =
    stands-waiting c.waits_change_nothing_else.ensures c.args.self.now law config items c.args.signals
    c.release_after.new.self stands c.release_after.ensures
