use Rattle.std.proofs.Common.{◌≡◌, ◌++◌, take, flat_map}
use Rattle.gw_state.specs.Layout.{saved_settings}
use Rattle.gw_state.proofs.head.append_all.Given as goal

abbrev pub invariant-loop-circuit : goal.invariant-loop-circuit
invariant-loop-circuit l =
    l.out.items ≡ l.initial.out.items ++ flat_map saved_settings (take l.circuit-index l.circuits)
