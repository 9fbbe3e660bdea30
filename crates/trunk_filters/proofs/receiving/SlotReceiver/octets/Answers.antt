use Rattle.std.proofs.Common.{◌++◌, refl, ap, arith}
use Rattle.std.proofs.lemmas.List.{take_all}
use Rattle.trunk_filters.proofs.Receives.{made-same, taken-next}
use Rattle.trunk_filters.proofs.receiving.SlotReceiver.octets.Goals as goal

pub loop-octet-preserved : goal.loop-octet-preserved
loop-octet-preserved c = record {
  made = λ law place taken made h. made-same _ _ _ _ _ _ _
      (taken-next taken c.args.octets.now c.loop-octet.octet-index (omega arith)) refl
      (c.octet.ensures.made _ _ _ _ (c.loop-octet.invariant.made law place taken made h));
  counted = omega (arith, c.loop-octet.invariant.counted, c.octet.ensures.counted);
  some = omega (arith, c.loop-octet.invariant.some, c.octet.ensures.some);
  first = λ zero. absurd (omega arith);
  begun = λ lt. c.octet.ensures.begun;
}

pub returns-clause-made : goal.returns-clause-made
returns-clause-made c law place taken made h = made-same _ _ _ _ _ _ _
    (ap (λ xs. taken ++ xs) (take_all c.loop-octet.octet-index c.args.octets.now (omega arith))) refl
    (c.loop-octet.invariant.made law place taken made h)
