use Rattle.gw_check.proofs.Recovering.{recovering}
use Rattle.gw_check.proofs.sessions.replay.Goals as goal

pub returns : goal.returns
returns g c = recovering c.cut_recordings_recover.ensures _ _ _ _ _ _ _ c.run.ensures.ok c.run.ensures.fault
