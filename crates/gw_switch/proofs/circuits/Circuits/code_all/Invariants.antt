use Rattle.gw_switch.proofs.Common.{◌≡◌}
use Rattle.gw_switch.proofs.circuits.Circuits.code_all.Given as goal

-- nothing is changed
abbrev pub invariant-loop-number : goal.invariant-loop-number
invariant-loop-number l = l.self ≡ l.initial.self
