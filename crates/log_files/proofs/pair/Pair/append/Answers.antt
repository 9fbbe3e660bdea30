use Rattle.log_files.proofs.Known.{on_err}
use Rattle.log_files.proofs.Writes.{gets_more, has_still, may_get_more}
use Rattle.log_files.proofs.pair.Pair.append.Goals as goal

pub returns-in_err-write_at-clause-err : goal.returns-in_err-write_at-clause-err
returns-in_err-write_at-clause-err g c = rw (← c.self.view_is) (on_err c.from_residual.result
    (has_still _ _ _ _ c.requires.counted _ (rw c.from.ensures at c.in_err-write_at.ensures.writes)))

pub returns-clause-ok : goal.returns-clause-ok
returns-clause-ok g c = rw (← c.self.view_is) (gets_more _ _ c.args.sum _ c.requires.counted
    (rw c.from.ensures at c.in_ok-write_at.ensures.writes) _ c.write_head.result
    (rw c.head_of-head.ensures at c.write_head.ensures.writes))

pub returns-clause-err : goal.returns-clause-err
returns-clause-err g c = rw (← c.self.view_is) (may_get_more _ _ c.args.sum _ c.requires.counted
    (rw c.from.ensures at c.in_ok-write_at.ensures.writes) _ c.write_head.result
    (rw c.head_of-head.ensures at c.write_head.ensures.writes))
