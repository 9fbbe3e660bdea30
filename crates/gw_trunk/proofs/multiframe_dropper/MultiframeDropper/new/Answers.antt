use Rattle.std.proofs.Common.{ap, refl, arith}
use Rattle.gw_records.specs.declared.log.Log.{Log}
use Rattle.gw_trunk.proofs.Thinning.{none-sent}
use Rattle.gw_trunk.proofs.multiframe_dropper.MultiframeDropper.new.Goals as goal

pub invariant_of-result : goal.invariant_of-result
invariant_of-result g c = record {
  thinned = ∣ none-sent _ _ _ _ (ap (λ (l : Log). l.octets) c.new-2.ensures)
      (rw (c.new.ensures, c.requires) refl) refl refl refl ∣₁;
  within = record {
    below = omega arith;
    room = λ goes begun. absurd (begun refl);
    prompt = λ e. record { none_held = c.new.ensures; goes = refl; none_discarded = refl };
  };
}
