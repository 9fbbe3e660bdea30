use Rattle.q421_line.proofs.Steps.{stands-refused, stands-obeyed}
use Rattle.q421_line.proofs.signalling.Line.command.Goals as goal

pub returns-in_err-self-clause-stands : goal.returns-in_err-self-clause-stands
returns-in_err-self-clause-stands c role items stands =
    stands-refused c.args.self.now role items c.args.asked _ stands c.in_err-self.ensures

pub returns-clause-stands : goal.returns-clause-stands
returns-clause-stands c role items stands =
    stands-obeyed c.args.self.now role items c.args.asked _ stands c.in_ok-self.ensures
