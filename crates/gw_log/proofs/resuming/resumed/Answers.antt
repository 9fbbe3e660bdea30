use Rattle.std.proofs.Common.{inl, refl}
use Rattle.gw_log.proofs.Resumed.{resumed_with}
use Rattle.gw_log.proofs.resuming.resumed.Goals as goal

pub returns-then-have_same_circuits : goal.returns-then-have_same_circuits
returns-then-have_same_circuits c = resumed_with _ _ _ _ _ c.in_ok-found.ensures c.in_ok-before.ensures
    (inl (c.if-have_same_circuits.ensures.yes refl, refl))

pub returns-in-Ok : goal.returns-in-Ok
returns-in-Ok c = resumed_with _ _ _ _ _ c.in_ok-found.ensures c.in_ok-before.ensures c.in-Ok.ensures
