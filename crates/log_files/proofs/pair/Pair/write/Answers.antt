use Rattle.log_files.proofs.Known.{on_err}
use Rattle.log_files.proofs.Writes.{begins, hides, hides_head, hides_some, leaves_first, leaves_none, may_begin}
use Rattle.log_files.proofs.pair.Pair.write.Goals as goal

pub returns-in_err-write_head-clause-err : goal.returns-in_err-write_head-clause-err
returns-in_err-write_head-clause-err g c = rw (← c.self.view_is) (on_err c.from_residual.result
    (leaves_first c.ranges.turn.fits _ c.requires.counted _ c.in_err-write_head.ensures.writes))

pub returns-in_err-write_at-clause-err : goal.returns-in_err-write_at-clause-err
returns-in_err-write_at-clause-err g c = rw (← c.self.view_is) (on_err c.from_residual-in_err-write_at.result
    (hides_some c.ranges.turn.fits _ c.requires.counted _ (hides_head c.in_ok-write_head.ensures.writes)
    c.in_err-write_at.ensures.writes))

pub returns-in_err-write_head-2-clause-err : goal.returns-in_err-write_head-2-clause-err
returns-in_err-write_head-2-clause-err g c =
    let before = hides c.ranges.turn.fits _ c.requires.counted _ (hides_head c.in_ok-write_head.ensures.writes)
    c.in_ok-write_at.ensures.writes in
    rw (← c.self.view_is) (on_err c.from_residual-in_err-write_head-2.result
    (leaves_none c.ranges.turn.fits _ c.requires.counted _ _ before c.in_err-write_head-2.ensures.writes))

pub returns-clause-ok : goal.returns-clause-ok
returns-clause-ok g c =
    let before = hides c.ranges.turn.fits _ c.requires.counted _ (hides_head c.in_ok-write_head.ensures.writes)
    c.in_ok-write_at.ensures.writes in
    rw (← c.self.view_is) (begins c.ranges.turn.fits _ c.requires.counted c.write_head-3.result before
    (rw c.head_over.ensures at c.in_ok-write_head-2.ensures.writes)
    (rw c.head_over-2.ensures at c.write_head-3.ensures.writes))

pub returns-clause-err : goal.returns-clause-err
returns-clause-err g c =
    let before = hides c.ranges.turn.fits _ c.requires.counted _ (hides_head c.in_ok-write_head.ensures.writes)
    c.in_ok-write_at.ensures.writes in
    rw (← c.self.view_is) (may_begin c.ranges.turn.fits _ c.requires.counted c.write_head-3.result before
    (rw c.head_over.ensures at c.in_ok-write_head-2.ensures.writes)
    (rw c.head_over-2.ensures at c.write_head-3.ensures.writes))
