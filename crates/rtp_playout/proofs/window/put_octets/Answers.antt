use Rattle.std.proofs.Common.{rules}
use Rattle.rtp_playout.proofs.Putting.{octet-put, same-size}
use Rattle.rtp_playout.proofs.window.put_octets.Goals as goal

pub put_word-requires : goal.put_word-requires
put_word-requires c = search (rules, same-size)

pub loop-i-preserved : goal.loop-i-preserved
loop-i-preserved c = search (rules, octet-put)
