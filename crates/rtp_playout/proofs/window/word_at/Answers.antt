use Rattle.rtp_playout.proofs.Later.{got-is-held}
use Rattle.rtp_playout.proofs.window.word_at.Goals as goal

pub returns : goal.returns
returns c = cc (got-is-held c.args.window.now.items c.args.place)
