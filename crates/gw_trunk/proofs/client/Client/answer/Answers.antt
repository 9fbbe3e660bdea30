use Rattle.std.proofs.Common.{◌∙◌}
use Rattle.std.proofs.Math.Logic.{∥∥₁_map}
use Rattle.gw_trunk.proofs.KnownOctets.{none-kept, over-kept}
use Rattle.gw_trunk.proofs.client.Client.answer.Goals as goal
use Rattle.gw_trunk.proofs.client.Client.answer.Goals.{then-self, else-self}

pub invariant_of-self : goal.invariant_of-self
invariant_of-self c =
    let s = c.args.self.now in
    let written = c.write_client-written in
    record {
      gives = s.gives;
      quiet = λ e. ∥∥₁_map (s.quiet e) (none-kept _ _ s.ended written.ensures.kept);
      over = λ e. ∥∥₁_map (s.over e) (over-kept _ _ written.ensures.kept);
      gone = λ e. elim c.if-self.branch [
        | then-self w ↦ w.self-is ∙ w.if-self.true
        | else-self w ↦ let left = s.gone e in cc
      ];
    }
