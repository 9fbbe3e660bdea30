use Rattle.g726_lanes.proofs.Common.{places, few_bits, few_magnitudes, rules}
use Rattle.g726_lanes.proofs.quantiser.functf.Goals as goal

pub small_entries-requires-clause-few : goal.small_entries-requires-clause-few
small_entries-requires-clause-few g c = search (rules, places, few_magnitudes, few_bits)
