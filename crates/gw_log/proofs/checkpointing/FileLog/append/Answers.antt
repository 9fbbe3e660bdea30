use Rattle.std.proofs.Common.{inl, inr, refl, sym, ◌∙◌}
use Rattle.gw_log.proofs.Keeping.{ends_broken, left_still}
use Rattle.gw_log.proofs.checkpointing.FileLog.append.Goals as goal

pub returns-then-self : goal.returns-then-self
returns-then-self g c = inl (rw (← c.self.view_is) c.if-self.true, refl)

pub returns-then-not-can_append : goal.returns-then-not-can_append
returns-then-not-can_append g c = inr (inr (record {
  going = rw (← c.self.view_is) c.if-self.false;
  cause = inl (c.if-not-can_append.ensures.no refl, c.fail.ensures);
  left = λ place gateway records k. inl (left_still k (rw c.fail.ensures refl) (rw c.fail.ensures refl));
}))

pub returns-then-is_err : goal.returns-then-is_err
returns-then-is_err g c = rw (← c.self.view_is) (ends_broken _ _ _ c.append.result
    (sym c.is_err.ensures.value ∙ c.if-is_err.true) c.if-self.false
    (rw (← c.self.view_is) at (c.if-not-can_append.ensures.yes refl))
    (rw c.fail-then-is_err.ensures c.append.ensures.err) (rw c.fail-then-is_err.ensures c.append.ensures.fault)
    (rw c.fail-then-is_err.ensures refl))
