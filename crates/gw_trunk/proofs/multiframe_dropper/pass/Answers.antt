use Rattle.gw_trunk.proofs.Thinning.{behind-steps}
use Rattle.gw_trunk.proofs.multiframe_dropper.pass.Goals as goal

pub returns-clause-steps : goal.returns-clause-steps
returns-clause-steps g c =
    let e = c.in_ok-n.ensures in
    behind-steps _ _ _ _ _ _ _ _ _ (rw (c.in_default.is) at (e.went))
    (c.take_slow.ensures.steps _ _ (rw (c.in_default.is) at (e.slow)))
