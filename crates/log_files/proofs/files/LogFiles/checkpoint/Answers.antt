use Rattle.std.proofs.Common.{refl}
use Rattle.log_files.proofs.Known.{on_err}
use Rattle.log_files.proofs.Logs.{leaves_one, stands_next}
use Rattle.log_files.proofs.files.LogFiles.checkpoint.Goals as goal

pub returns-in_err-write-clause-err : goal.returns-in_err-write-clause-err
returns-in_err-write-clause-err g c = on_err c.from_residual.result (λ kept s.
    leaves_one _ _ kept _ (rw (← c.self.view_is) at s) refl c.in_err-write.ensures.err)

pub returns-clause-ok : goal.returns-clause-ok
returns-clause-ok g c kept s = stands_next (rw (← c.self.view_is) at s) refl refl c.new-self-inside.ensures
    c.swap.ensures.y_after (rw c.swap.ensures.x_after c.in_ok-write.ensures.ok)
