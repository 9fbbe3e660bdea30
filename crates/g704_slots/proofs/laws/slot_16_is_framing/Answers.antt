use Rattle.g704_slots.proofs.Framing.{slot_16_is_framed}
use Rattle.g704_slots.proofs.laws.slot_16_is_framing.Goals as goal

pub returns : goal.returns
returns c = slot_16_is_framed
