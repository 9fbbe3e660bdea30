use Rattle.std.proofs.Common.{◌≤◌, length}
use Rattle.gw_satop.specs.Session.{HasSettings}
use Rattle.gw_satop.proofs.carrying.carry_satop.Given as goal

-- Both halves and the pace are set up as they were, and it was waited in each turn.
abbrev pub invariant-loop-turn : goal.invariant-loop-turn
invariant-loop-turn g l = record {
  same : HasSettings l.initial.circuit.receiver l.circuit.receiver l.initial.circuit.sender l.circuit.sender
      l.initial.circuit.pace l.circuit.pace;
  waited : l._turn ≤ length l.clock.waits.octets;
}
