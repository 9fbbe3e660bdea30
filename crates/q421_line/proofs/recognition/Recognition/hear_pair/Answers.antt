use Rattle.std.proofs.Common.{sym, ◌∙◌}
use Rattle.q421_line.proofs.Runs.{heard-push, recognised-ten, recognised-fewer}
use Rattle.q421_line.proofs.recognition.Recognition.hear_pair.Goals as goal

pub returns-then-self-eq-RECOGNISED_AFTER : goal.returns-then-self-eq-RECOGNISED_AFTER
returns-then-self-eq-RECOGNISED_AFTER c pairs heard =
    let run = c.run_with-self.ensures pairs heard in
    heard-push c.args.pair _ pairs _ run
    (sym (recognised-ten c.args.pair pairs (sym c.if-self-eq-RECOGNISED_AFTER.true ∙ run)))

pub returns-else-self-eq-RECOGNISED_AFTER : goal.returns-else-self-eq-RECOGNISED_AFTER
returns-else-self-eq-RECOGNISED_AFTER c pairs heard =
    let run = c.run_with-self.ensures pairs heard in
    heard-push c.args.pair _ pairs _ run
    (heard.recognised_is ∙ sym (recognised-fewer c.args.pair _ pairs run c.if-self-eq-RECOGNISED_AFTER.false))
