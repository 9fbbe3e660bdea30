use Rattle.g726_quant.proofs.Logarithms.{dln_in_range}
use Rattle.g726_quant.proofs.laws.dln_has_twelve_bits.Goals as goal

pub returns : goal.returns
returns c = dln_in_range
