use Rattle.gw_session.proofs.Common.{sym, inl, ◌++◌, [], ◌∷◌, length, ap, ◌∙◌, refl, length-append, arith, record_at}
use Rattle.gw_session.proofs.Common.{InputsShown, SessionInput, List, goes_up, starts, record_taken}
use Rattle.gw_session.proofs.Common.{stops_in, stops_behind, reads_more, ended, gives_up, ends_so}
use Rattle.gw_records.specs.declared.outcome.RunFault.TheVariants as faults
use Rattle.gw_session.proofs.Attending.{through_none, through_done, through_all, through_on}
use Rattle.gw_session.proofs.Attending.{waiting_failed, some_records, input_failed}
use Rattle.gw_session.proofs.Watching.{none_shown, shown_last, shown_more}
use Rattle.gw_session.proofs.processing.process_records.Goals as goal

pub handling-init : goal.handling-init
handling-init g c = (
  [],
  [],
  record {
    stage = starts _ _ _ c.requires.holds c.requires.turns;
    through = rw c.requires.totals (through_none _ _ _ none_shown c.requires.waiting);
    none_waits = λ none. ap length c.requires.waiting;
    few = omega (arith, ap length c.requires.waiting);
    terms = refl;
    holds = refl;
  },
)

pub handle_record-requires-clause-silent : goal.handle_record-requires-clause-silent
handle_record-requires-clause-silent g c = λ on. c.requires.silent (sym c.handling.invariant.2.holds ∙ on)

pub returns-in_err-handle_record-in-Ok-clause-fault : goal.returns-in_err-handle_record-in-Ok-clause-fault
returns-in_err-handle_record-in-Ok-clause-fault g c =
    let w = c.handling.invariant in
    let f = c.in-Ok.first in
    let found = c.in-Ok.ensures.good in
    let q = rw w.2.holds at c.in_err-handle_record-in-Ok.ensures.inputs in
    let seen = InputsShown g.W.Watch.shows c.args.gateway.now c.args.observers.now.watch c.handling.observers.watch in
    let known = InputsShown g.W.Watch.shows c.args.gateway.now c.args.observers.now.watch c.handle_record.new.observers.watch in
    let stopped = input_failed _ _ (g.L.Line.output c.args.line.now).sink seen _ c.keep.ensures w.2.few w.2.through known
    (λ inputs es came follows seen. shown_last came follows seen) q.2 in
    rw c.handle_record.ensures.input (goes_up _ _ faults.Write c.from_residual.ensures.1 q.0
    (stops_in f w.2.stage found q.1 (_, stopped)))

pub handling-preserved-in-Ok : goal.handling-preserved-in-Ok
handling-preserved-in-Ok g c =
    let w = c.handling.invariant in
    let f = c.in-Ok.first in
    let found = c.in-Ok.ensures.good in
    let q = rw w.2.holds at c.in_ok-handle_record-in-Ok.ensures.inputs in
    let code = c.in_ok-handle_record-in-Ok.ensures.code in
    let same = c.handle_record.ensures.input in
    let shown = rw (c.body-body.ensures, same) at c.after.ensures in
    let seen = InputsShown g.W.Watch.shows c.args.gateway.now c.args.observers.now.watch c.handling.observers.watch in
    let known : List SessionInput → Type 0 = λ inputs.
    InputsShown g.W.Watch.shows c.args.gateway.now c.args.observers.now.watch c.after.new.self inputs [] in
    let more = length-append w.1 (record_at f (g.L.Line.input c.handling.line).held.octets ∷ []) in (
      w.0,
      w.1 ++ record_at f (g.L.Line.input c.handling.line).held.octets ∷ [],
      record {
        stage = rw (c.pass.ensures.source, c.pass.ensures.output, same) (record_taken f w.2.stage found
            (rw same at c.pass.ensures.octets) (rw same at c.pass.ensures.turns) q.1);
        through = rw c.pass.ensures.output (through_done _ _ (g.L.Line.output c.args.line.now).sink seen _ c.keep.ensures w.2.few w.2.through known q.0
            (λ inputs. shown_more q.0.inputs code q.0.shown shown));
        none_waits = λ none. absurd (omega (arith, none, more));
        few = rw c.pass.ensures.output (rw w.2.terms at c.in_ok-handle_record-in-Ok.ensures.few);
        terms = c.pass.ensures.terms ∙ c.handle_record.ensures.terms ∙ w.2.terms;
        holds = c.handle_record.ensures.holds ∙ w.2.holds;
      },
    )

pub returns-in_err-write_out-in-Err-clause-fault : goal.returns-in_err-write_out-in-Err-clause-fault
returns-in_err-write_out-in-Err-clause-fault g c =
    let w = c.handling.invariant in
    let fault = c.in_err-write_out-in-Err.ensures.writes in
    let seen = InputsShown g.W.Watch.shows c.args.gateway.now c.args.observers.now.watch c.handling.observers.watch in
    rw c.write_out.ensures.input (goes_up _ _ faults.Write c.from_residual-in_err-write_out-in-Err.ensures.1 fault.0
    (stops_behind w.2.stage fault.1.counted (
      _,
      inl (waiting_failed _ _ (g.L.Line.output c.args.line.now).sink seen w.2.few w.2.through
          (some_records _ _ w.2.none_waits c.in_err-write_out-in-Err.ensures.some) fault.1),
    )))

pub handling-preserved : goal.handling-preserved
handling-preserved g c =
    let w = c.handling.invariant in
    let r = rw (c.if-not-branch.false, c.write_out.ensures.input) at c.in_ok-read_more-in-Err.ensures.ok in
    let same = c.read_more.ensures.output in
    let flushed = c.in_ok-write_out-in-Err.ensures in
    let seen = InputsShown g.W.Watch.shows c.args.gateway.now c.args.observers.now.watch c.handling.observers.watch in (
      w.0 ++ r.octets,
      w.1,
      record {
        stage = rw same (reads_more w.2.stage r c.requires.begins.turns flushed.writes.1);
        through = rw same (through_on _ _ (g.L.Line.output c.args.line.now).sink seen w.2.through flushed.writes.0
            flushed.empty);
        none_waits = λ none. rw same (ap length flushed.empty);
        few = rw same (omega (arith, ap length flushed.empty));
        terms = c.read_more.ensures.terms ∙ c.write_out.ensures.terms ∙ w.2.terms;
        holds = w.2.holds;
      },
    )

pub returns-then-not-branch-clause-ok : goal.returns-then-not-branch-clause-ok
returns-then-not-branch-clause-ok g c =
    let w = c.handling.invariant in
    let seen = InputsShown g.W.Watch.shows c.args.gateway.now c.args.observers.now.watch c.handling.observers.watch in
    let r = rw (c.if-not-branch.true, c.write_out.ensures.input) at c.in_ok-read_more-in-Err.ensures.ok in
    let e = ended c.handling.session.totals w.2.stage r refl c.in-Err.ensures.end
    c.in_ok-write_out-in-Err.ensures.writes.1
    (through_all _ _ (g.L.Line.output c.args.line.now).sink seen _ w.2.through c.in_ok-write_out-in-Err.ensures.writes.0) in
    rw c.read_more.ensures.output ((ends_so (λ records. Unit {0}) _ _ _ e.0 r.ended e.1 c.answer.ensures).0)

pub returns-then-not-branch-clause-fault : goal.returns-then-not-branch-clause-fault
returns-then-not-branch-clause-fault g c =
    let w = c.handling.invariant in
    let seen = InputsShown g.W.Watch.shows c.args.gateway.now c.args.observers.now.watch c.handling.observers.watch in
    let r = rw (c.if-not-branch.true, c.write_out.ensures.input) at c.in_ok-read_more-in-Err.ensures.ok in
    let e = ended c.handling.session.totals w.2.stage r refl c.in-Err.ensures.end
    c.in_ok-write_out-in-Err.ensures.writes.1
    (through_all _ _ (g.L.Line.output c.args.line.now).sink seen _ w.2.through c.in_ok-write_out-in-Err.ensures.writes.0) in
    rw c.read_more.ensures.output ((ends_so _ _ _ _ e.0 r.ended e.1 c.answer.ensures).1)

pub returns-in_err-read_more-in-Err-clause-fault : goal.returns-in_err-read_more-in-Err-clause-fault
returns-in_err-read_more-in-Err-clause-fault g c =
    let w = c.handling.invariant in
    let fault = rw c.write_out.ensures.input at c.in_err-read_more-in-Err.ensures.fault in
    let seen = InputsShown g.W.Watch.shows c.args.gateway.now c.args.observers.now.watch c.handling.observers.watch in
    rw c.read_more.ensures.output (goes_up _ _ faults.Read c.from_residual-in_err-read_more-in-Err.ensures.1 fault.0
    (gives_up c.handling.session.totals w.2.stage fault.1 refl c.in-Err.ensures.end
    c.in_ok-write_out-in-Err.ensures.writes.1
    (through_all _ _ (g.L.Line.output c.args.line.now).sink seen _ w.2.through c.in_ok-write_out-in-Err.ensures.writes.0)))

pub pass-requires : goal.pass-requires
pass-requires g c = (c.args.kinds.now, rw c.handle_record.ensures.input c.in-Ok.ensures.good)
