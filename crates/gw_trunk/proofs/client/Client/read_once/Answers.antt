use Rattle.std.proofs.Common.{◌∙◌, sym}
use Rattle.gw_trunk.proofs.KnownOctets.{held-more}
use Rattle.gw_trunk.proofs.client.Client.read_once.Goals as goal
use Rattle.gw_trunk.proofs.client.Client.read_once.Goals.{then-self, else-self}

pub invariant_of-self : goal.invariant_of-self
invariant_of-self c =
    let s = c.args.self.now in
    let read = c.read_more-read in
    record {
      gives = held-more _ _ _ _ _ _ s.gives read.ensures.more;
      quiet = λ e. ∣ (read.result, read.ensures.read, sym c.has_octets-self.ensures ∙ e, sym c.is_over-self.ensures) ∣₁;
      over = λ e. ∣ (read.result, read.ensures.read, sym c.is_over-self.ensures ∙ e) ∣₁;
      gone = λ e. elim c.if-self.branch [ then-self w ↦ w.self-is ∙ w.if-self.true | else-self w ↦ w.self-is ∙ e ];
    }
