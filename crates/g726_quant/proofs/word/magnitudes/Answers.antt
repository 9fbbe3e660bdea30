use Rattle.std.proofs.Common.{rules}
use Rattle.g726_quant.proofs.Places.{few_bits, few_magnitudes}
use Rattle.g726_quant.proofs.word.magnitudes.Goals as goal

pub returns-clause-bound : goal.returns-clause-bound
returns-clause-bound g c = search (rules, few_magnitudes, few_bits)
