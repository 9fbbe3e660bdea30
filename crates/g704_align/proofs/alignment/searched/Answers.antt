use Rattle.std.proofs.Common.{sym, ◌∙◌}
use Rattle.g704_align.proofs.Steps.{RestartsAfter-no_fas}
use Rattle.g704_align.proofs.alignment.searched.Goals as goal

pub returns-else-is_fas : goal.returns-else-is_fas
returns-else-is_fas c before = RestartsAfter-no_fas before c.args.octet (sym c.is_fas.ensures ∙ c.if-is_fas.false)
