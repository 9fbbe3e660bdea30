use Rattle.gw_switch.proofs.Common.{◌≡◌, ◌-◌, ◌%◌, ◌++◌, ◌∷◌, [], length, sym, ap, ◌∙◌, arith, CircuitEvent, slot_of}
use Rattle.gw_switch.proofs.Common.{circuit_in, heard, Event, octets, life, octet_reply, config_in, speech_out}
use Rattle.gw_switch.proofs.Common.{HasHistory}
use Rattle.gw_circuit.specs.Replies as alone
use Rattle.gw_switch.proofs.Sendings.{sends_speech, circuit_in-slot_of, slot_of-not0, slot_of-not16}
use Rattle.gw_switch.proofs.Heard.{slot_of-turn}
use Rattle.gw_switch.proofs.Views.{CircuitsStand-push, goes_by, octets-append, sees_slot, sees_nothing, sees_some}
use Rattle.gw_switch.proofs.Views.{lent_stands, left_stands, others_kept}
use Rattle.gw_switch.proofs.gateway.Gateway.send_slot.Goals as goal

pub returns : goal.returns
unfolding octet_reply HasHistory
returns c = λ config events o h.
    let n = length (octets events) in
    let s = octets events ++ o ∷ [] in
    let k = c.args.c in
    let is = c.at.ensures.number in
    let circuits = c.args.self.now.circuits in
    let left = c.send_speech.new.circuit in
    let place = slot_of-turn _ s n k h.trunk c.requires in
    let hears = c.take_speech-heard.ensures.heard s n h.trunk place in
    let stood = lent_stands circuits k _ _ _ c.at.result.now c.at.ensures.value (h.circuits k is.0 is.1) in
    record {
      reply = c.send_speech.ensures.reply _ _ _ stood
          ∙ ap (λ x. speech_out k (alone.slot_reply config.law (config_in config events k) (life k events) x)) hears
          ∙ ap (λ j. speech_out j
          (alone.slot_reply config.law (config_in config events j) (life j events) (heard j s n)))
          (sym (circuit_in-slot_of k) ∙ ap circuit_in (sym place))
          ∙ sym (sends_speech config events s n (n % 32) _ (λ e. slot_of-not0 k is.0 (sym place ∙ e))
          (λ e. slot_of-not16 k (sym place ∙ e)));
      kept = c.send_speech.ensures.kept _ _ _ stood;
      stands = record {
        trunk = rw (octets-append events (Event.Octet o ∷ [])) (c.take_speech-heard.ensures.sent s n h.trunk place);
        circuits = CircuitsStand-push config _ _ events (Event.Octet o) h.circuits (λ i low high.
            goes_by config _ _ events (Event.Octet o) k (CircuitEvent.Slot (heard k s n))
            (left_stands circuits k _ _ _ left is
            (rw (sym hears) (c.send_speech.ensures.stands _ _ _ stood)))
            (others_kept circuits k left) (sees_slot k s n place) is.0 i low
            (λ differ. sees_nothing i s n
            (λ e. differ (sym (circuit_in-slot_of i) ∙ ap circuit_in (sym e ∙ place) ∙ circuit_in-slot_of k))
            (λ e. slot_of-not16 k (sym place ∙ e))));
      };
      others = λ i low high nothing d. others_kept circuits k left (i - 1) d (λ e.
          let same : i ≡ k = omega (arith, e, low, is.0) in
          sees_some i s n (CircuitEvent.Slot (heard i s n)) (sees_slot i s n (place ∙ ap slot_of (sym same))) nothing);
    }
