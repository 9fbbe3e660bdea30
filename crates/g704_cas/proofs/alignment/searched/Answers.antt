use Rattle.std.proofs.Common.{arith, ◌≡◌, false, refl, sym, ◌∙◌}
use Rattle.std.proofs.lemmas.Grind.{common_steps}
use Rattle.std.specs.Prelude.{◌&&◌}
use Rattle.g704_cas.specs.Search.{is_mfas, is_not_zero}
use Rattle.g704_cas.proofs.Steps.{first_octet, RestartsAfter-other}
use Rattle.g704_cas.proofs.alignment.searched.Goals as goal

pub returns-then-is_mfas : goal.returns-then-is_mfas
returns-then-is_mfas c before h =
    first_octet before c.args.octet (sym h ∙ c.if-after_nonzero.true) (sym c.is_mfas.ensures ∙ c.if-is_mfas.true)

pub returns-else-after_nonzero : goal.returns-else-after_nonzero
returns-else-after_nonzero c before h =
    let passed : (is_mfas c.args.octet && is_not_zero before) ≡ false = grind (arith, common_steps) in
    (RestartsAfter-other before c.args.octet passed, refl)
