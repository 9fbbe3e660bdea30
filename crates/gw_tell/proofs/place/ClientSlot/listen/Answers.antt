use Rattle.gw_tell.proofs.place.ClientSlot.listen.Goals as goal

pub returns-in-Err-clause-client : goal.returns-in-Err-clause-client
returns-in-Err-clause-client c =
    rw (c.in-Some.is, c.let_go.ensures.gone) (c.listen.new.self, c.in-Err.ensures.start, c.in-Err.ensures.err)
