use Rattle.gw_trunk.proofs.clients.ask_one.Goals as goal

pub returns-in-Gone : goal.returns-in-Gone
returns-in-Gone c = rw (c.in-Some.is, c.in-Gone.is) (c.ask-asked.new.self, c.in-Gone.ensures.0, c.in-Gone.ensures.1)
