use Rattle.std.proofs.Common.{inr, refl}
use Rattle.gw_log.proofs.log_contents.LogContents.newest.Goals as goal

pub returns-then-are_blank-clause-ok : goal.returns-then-are_blank-clause-ok
returns-then-are_blank-clause-ok c =
    let none = rw (c.in-Ok-None.field-0-is, c.contents.ensures, c.contents-2.ensures) at c.in-Ok-None.ensures.ok in
    let blank = c.if-are_blank.ensures.yes refl in
    (none.0, none.1, blank.0, blank.1)

pub returns-else-are_blank-clause-err : goal.returns-else-are_blank-clause-err
returns-else-are_blank-clause-err c =
    let none = rw (c.in-Ok-None.field-0-is, c.contents.ensures, c.contents-2.ensures) at c.in-Ok-None.ensures.ok in
    (refl, inr (none.0, none.1, c.if-are_blank.ensures.no refl))
