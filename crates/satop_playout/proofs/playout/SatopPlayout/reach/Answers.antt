use Rattle.satop_playout.specs.Plays.{reach_after}
use Rattle.satop_playout.specs.Standing.{HasHistory}
use Rattle.satop_playout.proofs.playout.SatopPlayout.reach.Goals as goal

pub returns : goal.returns
unfolding HasHistory reach_after
returns c = λ settings calls k. k.reach_is
