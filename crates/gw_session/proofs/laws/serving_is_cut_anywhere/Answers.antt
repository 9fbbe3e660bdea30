use Rattle.gw_session.proofs.Cutting.{serving_cut}
use Rattle.gw_session.proofs.laws.serving_is_cut_anywhere.Goals as goal

pub returns : goal.returns
returns c = serving_cut
