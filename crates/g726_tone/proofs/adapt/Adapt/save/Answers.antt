use Rattle.std.proofs.Common.{◌≡◌, ◌++◌, ℕ, List, Result, Ok, Err, OnOk, refl, subst, ap, append_assoc}
use Rattle.g726_tone.specs.Adaptation.{Adaptation}
use Rattle.g726_tone.proofs.Reading.{same}
use Rattle.g726_tone.specs.Saved.{saved_adaptation}
use Rattle.g726_tone.proofs.adapt.Adapt.save.Goals as goal

-- three parts are written, one after the other
three-saved : {E : Type 0} (result : Result (Unit {0}) E) (old one two three a b c : List ℕ) → one ≡ old ++ a
    → two ≡ one ++ b → OnOk result (three ≡ two ++ c) → OnOk result (three ≡ old ++ (a ++ (b ++ c)))
three-saved (Err fault) old one two three a b c e f g = g
three-saved (Ok done) old one two three a b c e f g = cc (append_assoc (old ++ a) b c, append_assoc old a (b ++ c))

pub returns-clause-octets : goal.returns-clause-octets
unfolding saved_adaptation
returns-clause-octets c =
    let a : Adaptation = record {
      yu = c.self.inside.yu;
      yl = c.self.inside.yl;
      dms = c.self.inside.dms;
      dml = c.self.inside.dml;
      ap = c.self.inside.ap;
      td = c.self.inside.td;
    } in
    rw (← c.self.view_is) (subst (λ (s : Adaptation). OnOk c.append_bool.result
    (c.append_bool.new.out.items ≡ c.args.out.now.items ++ saved_adaptation s))
    (same a a.yu a.yl a.dms a.dml a.ap a.td c.self.invariant.ranges refl refl refl refl refl refl)
    (three-saved c.append_bool.result _ _ _ _ _ _ _ c.in_ok-save_scales.ensures c.in_ok-save_speeds.ensures
    c.append_bool.ensures.octets))
