use Rattle.gw_switch.proofs.SameWorlds.{multiframes_alike}
use Rattle.gw_switch.proofs.laws.multiframes_are_alike.Goals as goal

pub returns : goal.returns
returns c = multiframes_alike
