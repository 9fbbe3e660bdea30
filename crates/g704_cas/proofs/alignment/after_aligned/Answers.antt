use Rattle.std.proofs.Common.{arith, rules, ◌≡◌, ◌∷◌, [], ◌++◌, false, not, sym, subst}
use Rattle.std.proofs.lemmas.Grind.{common_steps}
use Rattle.std.specs.Prelude.{◌&&◌}
use Rattle.g704_cas.specs.Aligner.{IsAlignedRun}
use Rattle.g704_cas.proofs.Steps.{frame-below, zero-more, zero-lost, other-more, not_zero-wrong}
use Rattle.g704_cas.proofs.alignment.after_aligned.Goals as goal

pub returns-then-not-right : goal.returns-then-not-right
returns-then-not-right c before octets h = search (rules, zero-lost, not_zero-wrong)

pub returns-else-wrong : goal.returns-else-wrong
returns-else-wrong c before octets h =
    let passed : (not c.is_mfas-right.result && c.args.wrong) ≡ false = grind (arith, common_steps) in
    zero-more before octets c.args.octet _ _ h c.is_mfas-right.result c.if-frame-eq0.true
    (sym c.is_mfas-right.ensures) passed

pub returns-else-frame-eq0 : goal.returns-else-frame-eq0
returns-else-frame-eq0 c before octets h =
    subst (λ frame. IsAlignedRun before frame c.args.wrong (octets ++ c.args.octet ∷ []))
    (sym (c.next_frame.ensures (frame-below before octets c.args.octet _ _ h)))
    (other-more before octets c.args.octet _ _ h c.if-frame-eq0.false)
