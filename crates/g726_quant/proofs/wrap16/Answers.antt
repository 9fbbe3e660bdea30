use Rattle.std.proofs.Common.{rules}
use Rattle.std.specs.Int.{int_wrap}
use Rattle.g726_quant.proofs.wrap16.Goals as goal

pub returns : goal.returns
unfolding int_wrap
returns c = search rules
