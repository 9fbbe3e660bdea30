use Rattle.gw_records.specs.Line.{Terms}
use Rattle.gw_session.proofs.Common.{ap, sym, ◌∙◌}
use Rattle.gw_session.specs.declared.held.HeldPackets.{HeldPackets}
use Rattle.gw_session.proofs.Ends.{all_as, until_as, either_way}
use Rattle.gw_session.proofs.Plain.{runs, runs_until, seen_plain}
use Rattle.gw_session.proofs.runs.run_watched.Goals as goal

pub returns : goal.returns
returns g c =
    let holds = ap (λ (h : HeldPackets). h.holds) c.new-session.ensures.held ∙ c.none.ensures in
    let new = c.new-line.ensures in
    let ok = rw (holds, new.gives, new.takes, new.answer_time) at c.process_records.ensures.ok in
    let fault = rw (holds, new.gives, new.takes, new.answer_time) at c.process_records.ensures.fault in
    let terms = c.process_records.ensures.terms in
    let gave = c.source-1.given.1 (sym (ap (λ (t : Terms). t.lent.0) terms ∙ new.source)) in
    let took = c.sink-1.given.1 (sym (ap (λ (t : Terms). t.lent.1) terms ∙ new.sink)) in
    rw (gave, took) (record {
      ok = all_as _ _ _ _ _ (λ t records p. runs t records p.0) c.process_records.result ok;
      fault = until_as _ _ _ _ _ (λ t records p. runs t records p.0) _ c.process_records.result
          (λ records p. (runs_until records p).0)
          fault;
      watched = either_way _ _ c.process_records.result
          (all_as _ _ _ _ _ (λ t records p. (runs t records p.0, seen_plain p)) c.process_records.result
          ok)
          (until_as _ _ _ _ _ (λ t records p. (runs t records p.0, seen_plain p)) _ c.process_records.result runs_until
          fault);
    })

pub process_records-requires-clause-silent : goal.process_records-requires-clause-silent
process_records-requires-clause-silent g c = λ on.
    cc (sym on ∙ ap (λ (h : HeldPackets). h.holds) c.new-session.ensures.held ∙ c.none.ensures)
