use Rattle.gw_session.proofs.serves.serve_logged.Goals as goal

pub returns-clause-fault : goal.returns-clause-fault
returns-clause-fault g c = rw c.in-Ok.ensures at c.serve_holding.ensures.fault

pub returns-clause-watched : goal.returns-clause-watched
returns-clause-watched g c = rw c.in-Ok.ensures at c.serve_holding.ensures.watched
