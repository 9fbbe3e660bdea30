use Rattle.std.proofs.Common.{rules}
use Rattle.rtp_playout.specs.Saved.{saved_playout}
use Rattle.rtp_playout.proofs.playout.Playout.load_parts.Goals as goal

pub returns-clause-read : goal.returns-clause-read
unfolding saved_playout
returns-clause-read c = search rules
