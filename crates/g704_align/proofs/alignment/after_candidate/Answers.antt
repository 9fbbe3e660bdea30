use Rattle.std.proofs.Common.{sym, ◌∙◌}
use Rattle.g704_align.proofs.Steps.{candidate-refuted, candidate-found}
use Rattle.g704_align.proofs.alignment.after_candidate.Goals as goal

pub returns-then-refutes : goal.returns-then-refutes
returns-then-refutes c before octets h =
    candidate-refuted before octets c.args.octet c.args.age h (sym c.refutes.ensures ∙ c.if-refutes.true)

pub returns-else-age-lt-TWO_FRAMES : goal.returns-else-age-lt-TWO_FRAMES
returns-else-age-lt-TWO_FRAMES c before octets h =
    candidate-found octets c.args.octet c.args.age h
    (sym c.refutes.ensures ∙ c.if-refutes.false) c.if-age-lt-TWO_FRAMES.false
