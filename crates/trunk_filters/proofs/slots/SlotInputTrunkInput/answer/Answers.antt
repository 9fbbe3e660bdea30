use Rattle.std.proofs.Math.Logic.{∥∥₁_map}
use Rattle.trunk_filters.proofs.slots.SlotInputTrunkInput.answer.Goals as goal

pub invariant_of-self : goal.invariant_of-self
invariant_of-self g c = record {
  came = ∥∥₁_map c.args.self.now.came (λ t. rw c.answer.ensures.came t);
  said = ∥∥₁_map c.args.self.now.said (λ t. rw c.answer.ensures.came t);
  off = c.args.self.now.off;
  few = c.args.self.now.few;
}
