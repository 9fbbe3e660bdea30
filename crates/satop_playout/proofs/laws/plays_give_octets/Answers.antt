use Rattle.satop_playout.proofs.Turns.{nothing_is_given, beginnings_give_nothing, arrivals_give_nothing}
use Rattle.satop_playout.proofs.Turns.{plays_give_their_octets}
use Rattle.satop_playout.proofs.laws.plays_give_octets.Goals as goal

pub returns-clause-none : goal.returns-clause-none
returns-clause-none c = nothing_is_given

pub returns-clause-begins : goal.returns-clause-begins
returns-clause-begins c = beginnings_give_nothing

pub returns-clause-arrives : goal.returns-clause-arrives
returns-clause-arrives c = arrivals_give_nothing

pub returns-clause-plays : goal.returns-clause-plays
returns-clause-plays c = plays_give_their_octets
