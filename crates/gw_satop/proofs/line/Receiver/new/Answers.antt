use Rattle.satop_playout.specs.Standing.{HasHistory}
use Rattle.gw_satop.proofs.line.Receiver.new.Goals as goal

pub invariant_of-result : goal.invariant_of-result
unfolding HasHistory
invariant_of-result c = record { same = c.in_ok-new.ensures.settings_are }
