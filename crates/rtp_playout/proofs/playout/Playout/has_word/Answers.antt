use Rattle.std.proofs.Common.{rules}
use Rattle.rtp_playout.proofs.Later.{later-held}
use Rattle.rtp_playout.proofs.playout.Playout.has_word.Goals as goal

pub returns : goal.returns
returns c = search (rules, later-held)
