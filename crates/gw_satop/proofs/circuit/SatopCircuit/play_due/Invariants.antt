use Rattle.std.proofs.Common.{◌≡◌, ◌+◌, ◌*◌, ◌++◌, [], length}
use Rattle.gw_satop.specs.Playing.{OnlyPlays}
use Rattle.gw_satop.proofs.circuit.SatopCircuit.play_due.Given as goal

-- Packets were played, whose octets went to the trunk.
abbrev pub invariant-loop-play : goal.invariant-loop-play
invariant-loop-play g l = record {
  only : OnlyPlays l.initial.self l.self;
  octets : length (g.O.TrunkOutput.went l.self.outgoing ++ l.self.left.items)
      ≡ length (g.O.TrunkOutput.went l.initial.self.outgoing ++ l.initial.self.left.items)
      + l._play * l.initial.self.receiver.settings.size;
  all : l.initial.self.left.items ≡ [] → l.self.left.items ≡ [];
}
