use Rattle.gw_switch.proofs.Common.{◌∙◌, sym}
use Rattle.gw_switch.proofs.Heard.{hears_next}
use Rattle.gw_switch.proofs.trunk.Trunk.receive_speech.Goals as goal

pub returns-clause-heard : goal.returns-clause-heard
returns-clause-heard c = λ s h.
    let at = c.in-Some-Slot.field-0-is in
    hears_next _ _ c.pass.new.self _ s c.args.octet h
    (sym at ∙ c.in-Some-Slot.ensures.placed s c.args.octet h.frames)
    (c.in-Some-Slot.ensures.stands s c.args.octet h.frames) (c.store_speech.ensures _)

pub returns-clause-turn : goal.returns-clause-turn
returns-clause-turn c = rw ((c.store_speech.ensures c.in-Some-Slot.field-0-1).position) c.in_ok-circuit.ensures.turn
