use Rattle.g726_quant.proofs.Wrapping.{wraps}
use Rattle.g726_quant.proofs.laws.wraps_to_16_bits.Goals as goal

pub returns : goal.returns
returns c = wraps
