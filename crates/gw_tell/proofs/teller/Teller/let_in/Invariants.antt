use Rattle.gw_tell.proofs.Letting.{HasLetIn}
use Rattle.gw_tell.proofs.teller.Teller.let_in.Given as goal

-- A connection was accepted in each turn so far.
abbrev pub invariant-loop-turn : goal.invariant-loop-turn
invariant-loop-turn l = HasLetIn l.gateway l._turn l.fn.self l.self
