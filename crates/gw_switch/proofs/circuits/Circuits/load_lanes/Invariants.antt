use Rattle.gw_switch.proofs.Common.{◌≡◌}
use Rattle.gw_switch.specs.Together.{AreLoaded}
use Rattle.gw_switch.proofs.circuits.Circuits.load_lanes.Given as goal

-- the lanes up to the index are loaded, and nothing is changed
abbrev pub invariant-loop-number : goal.invariant-loop-number
invariant-loop-number l = record {
  loaded : AreLoaded l.self.channels.items l.places.items l.bundle;
  kept : l.self ≡ l.initial.self;
}
