use Rattle.gw_switch.proofs.Common.{get_or, None, sym, ◌∙◌, ap, slot_of, frame_with, heard}
use Rattle.gw_switch.proofs.Rounds.{slot_of-small, slot_of-speech, frame_with-small, elsewhere}
use Rattle.gw_switch.proofs.Sendings.{slot_of-not16}
use Rattle.gw_switch.proofs.Heard.{turn_over}
use Rattle.gw_switch.proofs.HearingLemmas.{octet_heard, octet_taken, nibble_kept}
use Rattle.gw_switch.proofs.trunk.Trunk.take_speech.Goals as goal

pub returns-clause-heard : goal.returns-clause-heard
unfolding heard
returns-clause-heard c = λ s n h own.
    let k = c.args.c in
    let is = c.slot.ensures.range in
    c.take_octet-heard.ensures.taken
    ∙ ap (λ i. get_or c.args.self.now.octets i None) c.slot.ensures.value
    ∙ octet_heard s (slot_of k) n _ h.awaited (sym own)
    (h.octets (slot_of k) (slot_of-small k is.1) (slot_of-speech k is.0 is.1))

pub returns-clause-sent : goal.returns-clause-sent
returns-clause-sent c = λ s n h own.
    turn_over c.args.self.now s n _ _ h
    (λ k lt speech.
    octet_taken s k c.slot.result n _ _ h.awaited lt (c.slot.ensures.value ∙ sym own) (h.octets k lt speech)
    (c.take_octet-heard.ensures.each k lt))
    (λ k low high.
    nibble_kept s k n _ h.awaited high
    (λ e. slot_of-not16 c.args.c (sym own ∙ (elsewhere n (frame_with k) (frame_with-small k high) e).0))
    (h.nibbles k low high))
