use Rattle.g704_framing.proofs.Keeps.{others_are_not_read}
use Rattle.g704_framing.proofs.laws.others_are_not_read.Goals as goal

pub returns : goal.returns
returns c = others_are_not_read
