use Rattle.gw_trunk.proofs.clients.answer_one.Goals as goal

pub returns-then-is_err : goal.returns-then-is_err
returns-then-is_err c =
    rw (c.in-Some.is) (c.answer.new.self, rw (c.if-is_err.ensures.negation) at c.answer.ensures)
