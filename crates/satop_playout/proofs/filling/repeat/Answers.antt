use Rattle.std.proofs.Common.{rules, refl}
use Rattle.satop_playout.specs.Replacement.{again}
use Rattle.satop_playout.proofs.Repeating.{again-next, last-many, repeated-more}
use Rattle.satop_playout.proofs.filling.repeat.Goals as goal

pub loop-i-init : goal.loop-i-init
unfolding again
loop-i-init c = λ all is many. refl

pub loop-i-preserved : goal.loop-i-preserved
loop-i-preserved c = search (rules, repeated-more, again-next, last-many)
