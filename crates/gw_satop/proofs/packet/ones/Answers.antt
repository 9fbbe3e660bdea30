use Rattle.gw_satop.proofs.Ones.{first_ones}
use Rattle.gw_satop.proofs.packet.ones.Goals as goal

pub returns : goal.returns
returns c = first_ones 1280 c.args.size c.requires
