use Rattle.std.proofs.Common.{arith}
use Rattle.log_files.proofs.Logs.{before_later, newer_than_none, newest_first, newest_none, newest_same, newest_second}
use Rattle.log_files.proofs.loading.newest.Goals as goal

pub returns-in-None-None-clause-left : goal.returns-in-None-None-clause-left
returns-in-None-None-clause-left c = newest_none c.in-None-None.ensures.none c.in-None-None.ensures'.none

pub returns-in-None-Some-clause-left : goal.returns-in-None-Some-clause-left
returns-in-None-Some-clause-left c =
    newest_second (newer_than_none c.in-None-Some.ensures'.some c.in-None-Some.ensures.none)

pub returns-in-Some-None-clause-left : goal.returns-in-Some-None-clause-left
returns-in-Some-None-clause-left c =
    newest_first (newer_than_none c.in-Some-None.ensures.some c.in-Some-None.ensures'.none)

pub returns-in-Some-Some-clause-ok : goal.returns-in-Some-Some-clause-ok
returns-in-Some-Some-clause-ok c =
    (c.in-Some-Some.ensures.some, before_later c.in-Some-Some.ensures'.some c.if-kept-other.true)

pub returns-in-Some-Some-clause-left : goal.returns-in-Some-Some-clause-left
returns-in-Some-Some-clause-left c =
    newest_first (c.in-Some-Some.ensures.some, before_later c.in-Some-Some.ensures'.some c.if-kept-other.true)

pub returns-in-Some-Some-2-clause-ok : goal.returns-in-Some-Some-2-clause-ok
returns-in-Some-Some-2-clause-ok c =
    (c.in-Some-Some.ensures'.some, before_later c.in-Some-Some.ensures.some c.if-kept-other-2.true)

pub returns-in-Some-Some-2-clause-left : goal.returns-in-Some-Some-2-clause-left
returns-in-Some-Some-2-clause-left c =
    newest_second (c.in-Some-Some.ensures'.some, before_later c.in-Some-Some.ensures.some c.if-kept-other-2.true)

pub returns-in-Some-Some-3-clause-left : goal.returns-in-Some-Some-3-clause-left
returns-in-Some-Some-3-clause-left c =
    newest_same c.in-Some-Some.ensures.some c.in-Some-Some.ensures'.some (omega arith)
