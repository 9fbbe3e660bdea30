use Rattle.gw_session.proofs.ReadBack.{read_back}
use Rattle.gw_session.proofs.laws.recordings_are_read_back.Goals as goal

pub returns : goal.returns
returns c = read_back
