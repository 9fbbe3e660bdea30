use Rattle.gw_circuit.proofs.Coders.{one-more-waits}
use Rattle.gw_circuit.proofs.coder.Coder.hear.Goals as goal

pub returns-clause-state : goal.returns-clause-state
returns-clause-state c =
    rw (c.push.ensures.items, ← c.self.view_is)
    (one-more-waits c.codecs_continue.ensures.lists _ _ _ c.args.octet c.self.invariant)
