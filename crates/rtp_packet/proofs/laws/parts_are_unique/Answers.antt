use Rattle.rtp_packet.proofs.Callers.{parts_are_unique}
use Rattle.rtp_packet.proofs.laws.parts_are_unique.Goals as goal

pub returns : goal.returns
returns c = parts_are_unique
