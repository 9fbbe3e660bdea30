use Rattle.gw_session.proofs.Killed.{cut_sessions}
use Rattle.gw_session.proofs.laws.cut_sessions_answer_their_logs.Goals as goal

pub returns : goal.returns
returns c = cut_sessions
