use Rattle.std.proofs.Common.{arith}
use Rattle.gw_tell.proofs.Letting.{all-let-in, nobody-let-in, one-let-in}
use Rattle.gw_tell.proofs.teller.Teller.let_in.Goals as goal

pub loop-turn-preserved : goal.loop-turn-preserved
loop-turn-preserved c = one-let-in _ c.loop-turn._turn _ _ _ _ _ c.loop-turn.invariant c.in-Some.ensures
    c.welcome.ensures

pub returns-in_default : goal.returns-in_default
returns-in_default c = nobody-let-in _ c.loop-turn._turn _ _ _ c.loop-turn-test.true c.loop-turn.invariant
    c.in_default.ensures

pub returns : goal.returns
returns c = all-let-in _ c.loop-turn._turn _ _ (omega (arith, c.loop-turn-test.false, c.loop-turn.auto._turn-end))
    c.loop-turn.invariant
