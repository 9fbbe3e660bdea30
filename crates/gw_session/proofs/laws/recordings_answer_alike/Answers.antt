use Rattle.gw_session.proofs.AnsweredAlike.{answer_alike}
use Rattle.gw_session.proofs.laws.recordings_answer_alike.Goals as goal

pub returns : goal.returns
returns c = answer_alike
