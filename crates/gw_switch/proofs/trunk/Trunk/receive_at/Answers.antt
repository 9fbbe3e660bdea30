use Rattle.gw_switch.proofs.trunk.Trunk.receive_at.Goals as goal

-- an octet of a slot of speech
pub returns-in-Slot : goal.returns-in-Slot
returns-in-Slot c = rw (c.in-Slot.is) (c.store_speech.ensures c.in-Slot.fas)
