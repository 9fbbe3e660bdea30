use Rattle.std.proofs.Common.{arith}
use Rattle.gw_filter.proofs.InPlace.{none_filtered, one_more}
use Rattle.gw_filter.proofs.filters.align_all.Goals as goal

pub loop-octet-init : goal.loop-octet-init
loop-octet-init c = none_filtered _ _

pub loop-octet-preserved : goal.loop-octet-preserved
loop-octet-preserved c =
    one_more _ _ _ _ _ _ _ c.loop-octet.invariant (omega arith) c.octet.ensures.reply c.octet.ensures.stands
