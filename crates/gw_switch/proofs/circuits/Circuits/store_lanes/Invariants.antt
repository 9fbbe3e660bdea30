use Rattle.gw_switch.proofs.Common.{◌≡◌}
use Rattle.gw_switch.proofs.circuits.Circuits.store_lanes.Given as goal

-- nothing is changed
abbrev pub invariant-loop-k : goal.invariant-loop-k
invariant-loop-k l = l.self ≡ l.initial.self
