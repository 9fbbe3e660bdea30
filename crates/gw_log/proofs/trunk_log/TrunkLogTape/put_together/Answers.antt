use Rattle.gw_log.proofs.Keeping.{told_appended}
use Rattle.gw_log.proofs.trunk_log.TrunkLogTape.put_together.Goals as goal

pub returns-clause-written : goal.returns-clause-written
returns-clause-written g c = rw (← c.self.view_is) (told_appended _ _ _ c.append.ensures)
