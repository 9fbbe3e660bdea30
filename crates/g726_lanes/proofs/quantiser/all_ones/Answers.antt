use Rattle.g726_lanes.proofs.Common.{few_bits, rules}
use Rattle.g726_lanes.proofs.QuantLanes.{power}
use Rattle.g726_lanes.proofs.quantiser.all_ones.Goals as goal

pub returns : goal.returns
returns g c = search (rules, few_bits, power)
