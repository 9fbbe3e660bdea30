use Rattle.gw_session.proofs.Taping.{one_written}
use Rattle.gw_log.proofs.Keeping.{told_appended}
use Rattle.gw_log.proofs.trunk_log.TrunkLogTape.put.Goals as goal

pub returns-clause-recorded : goal.returns-clause-recorded
returns-clause-recorded g c = rw (← c.self.view_is) (one_written _ _ _ _ c.requires
    (cc (c.as_slice.ensures.value, c.deref.ensures, c.spell.ensures)) (told_appended _ _ _ c.append.ensures))
