use Rattle.std.proofs.Common.{◌∙◌, inr, refl}
use Rattle.gw_satop.proofs.circuit.SatopCircuit.hear_all.Goals as goal

pub returns-then-not-hear-clause-hears : goal.returns-then-not-hear-clause-hears
returns-then-not-hear-clause-hears g c =
    let none = c.if-not-hear.ensures.none refl in
    let heard = c.loop-datagram.invariant.heard in
    record {
      heard = heard.0;
      received_are = none.1 ∙ heard.1;
      all = inr (c.hear.new.self.peer, none.0, refl);
    }
