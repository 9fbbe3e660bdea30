use Rattle.gw_session.proofs.Common.{refl}
use Rattle.gw_session.proofs.Taping.{recorded_over}
use Rattle.gw_session.proofs.tape.OptionTape.put.Goals as goal

pub returns-in_default-clause-recorded : goal.returns-in_default-clause-recorded
returns-in_default-clause-recorded g c = rw c.in_default.is (recorded_over _ _ refl)
