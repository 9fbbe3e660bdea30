use Rattle.gw_log.proofs.Resumed.{is_newest}
use Rattle.gw_log.proofs.resuming.resumed_of.Goals as goal

pub returns-in-Ok-clause-some : goal.returns-in-Ok-clause-some
returns-in-Ok-clause-some c = record {
  kept = _;
  newest = is_newest _ _ _ _ (rw c.in-Some.is at c.in_ok-loaded.ensures.ok) c.kept.ensures;
  resumed = c.in-Ok.ensures;
}
