use Rattle.std.proofs.Common.{◌∙◌, ◌++◌, ap, List, ℕ}
use Rattle.gw_tell.specs.Lines.{at_line}
use Rattle.gw_tell.proofs.Reporting.{changes_go_behind, counted_alike}
use Rattle.gw_tell.proofs.Sending.{event_behind, front_is, tells}
use Rattle.gw_tell.proofs.teller.Teller.tell.Goals as goal

pub tell_all-requires-clause-front : goal.tell_all-requires-clause-front
tell_all-requires-clause-front c = let line = at_line c.place_after-at.result in
    (front_is line _ _ _ _ (c.push_at.ensures.line ∙ ap (λ (xs : List ℕ). xs ++ line) c.clear.ensures)
    c.len-front.ensures.value c.as_slice.ensures.value
    (event_behind _ _ (changes_go_behind
    (rw c.push_event.ensures.line at c.report.ensures.changes)))).0

pub tell_all-requires-clause-line : goal.tell_all-requires-clause-line
tell_all-requires-clause-line c = let line = at_line c.place_after-at.result in
    (front_is line _ _ _ _ (c.push_at.ensures.line ∙ ap (λ (xs : List ℕ). xs ++ line) c.clear.ensures)
    c.len-front.ensures.value c.as_slice.ensures.value
    (event_behind _ _ (changes_go_behind
    (rw c.push_event.ensures.line at c.report.ensures.changes)))).1

pub returns-clause-changes : goal.returns-clause-changes
returns-clause-changes c = let line = at_line c.place_after-at.result in
    tells _ _ _ _ _ _ _ _ _ _ _ c.of-is.ensures c.place_after-at.ensures
    (c.push_at.ensures.line ∙ ap (λ (xs : List ℕ). xs ++ line) c.clear.ensures)
    c.len-front.ensures.value c.as_slice.ensures.value
    (rw (c.are_due-due.ensures, c.place_after-at.ensures, c.push_event.ensures.line) at c.report.ensures.changes)
    c.report.ensures.true_picture
    c.tell_all.ensures.told

pub returns-clause-counted : goal.returns-clause-counted
returns-clause-counted c = counted_alike _ _ _ _ _ c.count_seizures.ensures c.report.ensures.true_picture.rows_are
