-- What plays leave of an emulated circuit (module `circuit`).
use Rattle.std.specs.Prelude.{◌≡◌}
use Rattle.gw_satop.specs.declared.circuit.SatopCircuit.{SatopCircuit}
use Rattle.gw_satop.specs.Pace.{KeepsTime}
use Rattle.gw_satop.specs.Session.{HasSettings}

-- packets were played, and nothing else was done: both halves are set up as they were, time stands, nothing
-- was sent to the far end or received, and no octet came from the trunk
pub record OnlyPlays {I O S : Type 0} {i : _} {o : _} {s : _} (old new : SatopCircuit I O S i o s)
    : Type 0 where
  pub same : HasSettings old.receiver new.receiver old.sender new.sender old.pace new.pace
  pub pace : KeepsTime old.pace new.pace
  pub peer : new.peer ≡ old.peer
  pub incoming : new.incoming ≡ old.incoming

-- the trunk was given octets that were left for it, and nothing else was done
pub record OnlyFlushes {I O S : Type 0} {i : _} {o : _} {s : _} (old new : SatopCircuit I O S i o s)
    : Type 0 where
  pub receiver : new.receiver ≡ old.receiver
  pub sender : new.sender ≡ old.sender
  pub pace : new.pace ≡ old.pace
  pub counts : new.counts ≡ old.counts
  pub peer : new.peer ≡ old.peer
  pub incoming : new.incoming ≡ old.incoming
