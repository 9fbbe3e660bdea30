use Rattle.std.proofs.Common.{refl}
use Rattle.log_files.proofs.Known.{on_err}
use Rattle.log_files.proofs.Logs.{leaves_more, stands_more}
use Rattle.log_files.proofs.files.LogFiles.append.Goals as goal

pub returns-in_err-append-clause-err : goal.returns-in_err-append-clause-err
returns-in_err-append-clause-err g c = on_err c.from_residual.result (λ kept s.
    leaves_more _ _ kept _ _ _ (rw (← c.self.view_is) at s) c.add.ensures c.sum.ensures refl
    c.in_err-append.ensures.err)

pub returns-clause-ok : goal.returns-clause-ok
returns-clause-ok g c kept s = stands_more _ _ kept _ _ _ (rw (← c.self.view_is) at s) c.add.ensures c.sum.ensures refl
    refl refl refl c.in_ok-append.ensures.ok
