-- A pair other than the last one begins a run.
use Rattle.std.proofs.lemmas.Bool.{iff_false}
use Rattle.q421_line.proofs.Runs.{run-first}
use Rattle.q421_line.proofs.recognition.Recognition.run_with.Goals as goal

pub returns-then-not-ended_in : goal.returns-then-not-ended_in
returns-then-not-ended_in c pairs heard =
    run-first c.args.self.now c.args.pair pairs heard (iff_false c.ended_in.ensures c.if-not-ended_in.true)
