use Rattle.gw_switch.proofs.Heard.{hears_next}
use Rattle.gw_switch.proofs.trunk.Trunk.receive.Goals as goal

pub returns : goal.returns
returns c = λ s h.
    hears_next _ _ _ _ s c.args.octet h (c.octet-place.ensures.placed s h.frames)
    (c.octet-place.ensures.stands s h.frames) c.receive_at.ensures
