use Rattle.std.proofs.Common.{◌∙◌, ap}
use Rattle.q421_line.specs.Tables.{sent_nibble}
use Rattle.q421_line.specs.Signalling.{next_by}
use Rattle.q421_line.proofs.Steps.{stands-signal}
use Rattle.q421_line.proofs.signalling.Line.signal.Goals as goal

pub returns-clause-stands : goal.returns-clause-stands
returns-clause-stands c role items stands =
    stands-signal c.args.self.now role items c.args.heard c.receive.new.self c.next_by-next.result _ _
    stands (c.receive.ensures _ stands.heard)
    (c.next_by-next.ensures ∙ ap (λ pair. next_by c.args.self.now.role c.args.self.now.state pair) c.recognised.ensures)
    (c.count_seizure-state.ensures.state _) (c.count_seizure-state.ensures.seized_for _)

pub returns-clause-sent : goal.returns-clause-sent
returns-clause-sent c role items stands =
    c.nibble.ensures.value ∙ ap sent_nibble (c.sent.ensures role _ (returns-clause-stands c role items stands))
