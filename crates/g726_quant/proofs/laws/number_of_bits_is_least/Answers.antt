use Rattle.g726_quant.proofs.Bits.{number_of_bits_holds, number_of_bits_least}
use Rattle.g726_quant.proofs.laws.number_of_bits_is_least.Goals as goal

pub returns : goal.returns
returns c = λ m. (number_of_bits_holds m, number_of_bits_least m)
