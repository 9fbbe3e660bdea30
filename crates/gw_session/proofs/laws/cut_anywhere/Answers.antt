use Rattle.gw_session.proofs.Cutting.{cut_anywhere}
use Rattle.gw_session.proofs.laws.cut_anywhere.Goals as goal

pub returns : goal.returns
returns c = cut_anywhere c.same_states_have_one_history.ensures
