use Rattle.gw_session.proofs.Watching.{shown_one}
use Rattle.gw_session.proofs.exchange.give_shown.Goals as goal

pub returns-clause-shown : goal.returns-clause-shown
returns-clause-shown g c = shown_one c.datagram.ensures c.give_datagram-code.ensures.code
