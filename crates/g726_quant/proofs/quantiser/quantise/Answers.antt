use Rattle.std.proofs.Common.{rules}
use Rattle.std.proofs.lemmas.Int.{to_z-of_z}
use Rattle.g726_quant.specs.Blocks.{quantised}
use Rattle.g726_quant.proofs.quantiser.quantise.Goals as goal

pub returns : goal.returns
unfolding quantised
returns g c = search (rules, to_z-of_z)
