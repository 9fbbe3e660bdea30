use Rattle.satop_playout.proofs.Turns.{accepted_is_played}
use Rattle.satop_playout.proofs.laws.accepted_packets_are_played.Goals as goal

pub returns : goal.returns
returns c = accepted_is_played
