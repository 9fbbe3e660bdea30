use Rattle.std.proofs.Common.{◌∙◌, refl, arith}
use Rattle.trunk_filters.proofs.Receives.{made-none}
use Rattle.trunk_filters.proofs.receiving.SlotReceiver.new.Goals as goal

pub returns : goal.returns
returns c = made-none _ c.args.law c.args.place _ c.new.ensures.stands (omega (arith, c.saturating_sub.ensures))
    (c.new.ensures.idle ∙ c.idle.ensures) refl
