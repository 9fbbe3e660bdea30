use Rattle.std.proofs.Common.{◌++◌, ◌∙◌, ap, inr, List, ℕ, take}
use Rattle.gw_tell.proofs.Sending.{full-then}
use Rattle.gw_tell.proofs.client.Client.give.Goals as goal

pub returns-in-Err-clause-err : goal.returns-in-Err-clause-err
returns-in-Err-clause-err c =
    let front = take c.in_ok-taken.taken c.args.octets.now in
    inr (full-then _ _ _ _ _ c.in_ok-taken.ensures.bound
    (c.in_ok-taken.ensures.sent ∙ ap (λ (xs : List ℕ). xs ++ front) c.flush.ensures.sent) c.in-Err.ensures.full)
