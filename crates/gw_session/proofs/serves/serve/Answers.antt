use Rattle.gw_records.specs.Line.{Terms}
use Rattle.gw_session.proofs.Common.{ap, sym, ◌∙◌}
use Rattle.gw_session.proofs.serves.serve.Goals as goal

pub returns-clause-ok : goal.returns-clause-ok
returns-clause-ok g c =
    let new = c.new-line.ensures in
    let terms = c.serve_holding.ensures.terms in
    let gave = c.source-1.given.1 (sym (ap (λ (t : Terms). t.lent.0) terms ∙ new.source)) in
    let took = c.sink-1.given.1 (sym (ap (λ (t : Terms). t.lent.1) terms ∙ new.sink)) in
    rw (gave, took) (rw (c.none-held.ensures, new.gives, new.takes) at c.serve_holding.ensures.ok)

pub returns-clause-fault : goal.returns-clause-fault
returns-clause-fault g c =
    let new = c.new-line.ensures in
    let terms = c.serve_holding.ensures.terms in
    let gave = c.source-1.given.1 (sym (ap (λ (t : Terms). t.lent.0) terms ∙ new.source)) in
    let took = c.sink-1.given.1 (sym (ap (λ (t : Terms). t.lent.1) terms ∙ new.sink)) in
    rw (gave, took) (rw (c.none-held.ensures, new.gives, new.takes) at c.serve_holding.ensures.fault)
