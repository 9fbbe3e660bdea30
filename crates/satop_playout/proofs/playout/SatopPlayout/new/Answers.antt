use Rattle.std.proofs.Common.{rules}
use Rattle.satop_playout.specs.Plays.{stream}
use Rattle.satop_playout.specs.Standing.{HasHistory}
use Rattle.satop_playout.proofs.playout.SatopPlayout.new.Goals as goal

pub returns : goal.returns
unfolding HasHistory stream
returns c = search rules
