use Rattle.std.proofs.Common.{arith}
use Rattle.gw_trunk.proofs.Placing.{quiet-round}
use Rattle.gw_trunk.proofs.clients.Clients.ask.Goals as goal

pub returns-clause-quiet : goal.returns-clause-quiet
returns-clause-quiet c = λ e. quiet-round _ c.loop-turn.turn _ _
    (omega (arith, c.loop-turn-test.false, c.loop-turn.auto.turn-end)) c.loop-turn.invariant.places
    c.loop-turn.invariant.none
