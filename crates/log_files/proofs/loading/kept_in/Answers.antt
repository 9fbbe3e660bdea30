use Rattle.std.proofs.Common.{sym, ◌∙◌}
use Rattle.log_files.proofs.Heads.{one_turn}
use Rattle.log_files.proofs.loading.kept_in.Goals as goal

pub returns-in_err-state-clause-none : goal.returns-in_err-state-clause-none
returns-in_err-state-clause-none c = rw c.from_residual.ensures
    (λ kept h. c.in_err-state.ensures.none kept.turn kept.state h.state)

pub returns-in_err-records-clause-none : goal.returns-in_err-records-clause-none
returns-in_err-records-clause-none c = rw c.from_residual-in_err-records.ensures
    (λ kept h. c.in_err-records.ensures.none kept.turn kept.records h.records)

pub returns-then-state-records-clause-none : goal.returns-then-state-records-clause-none
returns-then-state-records-clause-none c kept h = c.if-state-records.true
    (one_turn c.in_ok-state.ensures.some h.state ∙ sym (one_turn c.in_ok-records.ensures.some h.records))
