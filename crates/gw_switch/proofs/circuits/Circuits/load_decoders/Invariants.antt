use Rattle.gw_switch.specs.Together.{AreDecoders}
use Rattle.gw_switch.proofs.circuits.Circuits.load_decoders.Given as goal

-- the lanes up to the index are loaded
abbrev pub invariant-loop-number : goal.invariant-loop-number
invariant-loop-number l = AreDecoders l.self.channels.items l.places.items l.bundle
