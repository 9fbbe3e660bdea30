use Rattle.g726_lanes.proofs.Common.{rules}
use Rattle.g726_tone.specs.Adaptation.{mix}
use Rattle.g726_lanes.proofs.Each.{of_eight, same_lane}
use Rattle.g726_lanes.proofs.adaptations.Adaptations.reset.Goals as goal

pub invariant_of-result : goal.invariant_of-result
unfolding mix
invariant_of-result c = search (rules, same_lane, of_eight)
