use Rattle.std.proofs.Common.{◌≡◌, ◌-◌, ◌<◌, ◌≤◌, ◌++◌, length, take}
use Rattle.gw_trunk.specs.Device.{WasGivenAll}
use Rattle.gw_trunk.proofs.sink.put_all.Given as goal

-- The first octets went so far.
abbrev pub invariant-putting : goal.invariant-putting
invariant-putting g l = record {
  bound : l.done ≤ length l.octets;
  went : g.O.TrunkOutput.went l.outgoing ≡ g.O.TrunkOutput.went l.initial.outgoing ++ take l.done l.octets;
  given : 0 < l.done → WasGivenAll g.O.TrunkOutput.was_given l.octets;
}

abbrev pub decreases-putting : goal.decreases-putting
decreases-putting g l = length l.octets - l.done
