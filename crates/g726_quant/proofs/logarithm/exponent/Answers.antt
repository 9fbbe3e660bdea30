use Rattle.std.proofs.Common.{rules}
use Rattle.g726_quant.proofs.Bits.{exponent_of_max}
use Rattle.g726_quant.proofs.logarithm.exponent.Goals as goal

pub returns-clause-value : goal.returns-clause-value
returns-clause-value c = search (rules, exponent_of_max)
