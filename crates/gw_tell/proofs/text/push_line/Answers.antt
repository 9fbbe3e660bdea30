use Rattle.std.proofs.Common.{◌∙◌, append_assoc}
use Rattle.gw_tell.specs.Lines.{number_line}
use Rattle.gw_tell.proofs.text.push_line.Goals as goal

pub returns-clause-line : goal.returns-clause-line
unfolding number_line
returns-clause-line c = c.push-2.ensures.items ∙ rw (c.push_numbers.ensures.numbers, c.push.ensures) (simp append_assoc)
