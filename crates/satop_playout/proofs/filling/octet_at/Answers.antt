use Rattle.std.proofs.Common.{arith}
use Rattle.std.proofs.lemmas.Option.{unwrap_or-slice_get}
use Rattle.satop_playout.proofs.filling.octet_at.Goals as goal

pub returns-in-None : goal.returns-in-None
returns-in-None c = grind (arith, unwrap_or-slice_get c.args.octets.now.items c.args.place 0)
