use Rattle.std.proofs.Common.{arith}
use Rattle.std.proofs.lemmas.List.{take_all}
use Rattle.gw_state.proofs.Lengths.{thirty-have}
use Rattle.gw_state.proofs.head.append_all.Goals as goal

pub returns-clause-len : goal.returns-clause-len
returns-clause-len c = rw (
  c.loop-circuit.invariant,
  take_all c.loop-circuit.circuit-index c.args.circuits.now (omega (arith, c.told-circuits, c.loop-circuit-test.false)),
) (thirty-have c.args.circuits.now c.args.out.now.items c.told-circuits)
