use Rattle.std.proofs.Common.{rules, refl, ap}
use Rattle.trunk_filters.proofs.Inputs.{came-none, said-none}
use Rattle.trunk_filters.proofs.slots.SlotInput.new.Goals as goal

pub invariant_of-result : goal.invariant_of-result
invariant_of-result g c = record {
  came = ∣ came-none c.receiver_from.result _ _ _ _ _ c.requires.came (ap (λ l. l.octets) c.new-2.ensures)
      c.new.ensures (rw (c.of.ensures, c.of-2.ensures) c.receiver_from.ensures.begins) ∣₁;
  said = ∣ said-none c.receiver_from.result _ _ c.requires.came ∣₁;
  off = λ e. refl;
  few = search rules;
}
