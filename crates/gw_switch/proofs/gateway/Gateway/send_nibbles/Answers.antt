use Rattle.gw_switch.proofs.Common.{◌≡◌, ℕ, ◌+◌, ◌-◌, ◌≤◌, ◌/◌, ◌%◌, List, Option, ◌++◌, ◌∷◌, [], length, refl, sym, ap}
use Rattle.gw_switch.proofs.Common.{◌∙◌, arith, CircuitEvent, frame_with, GatewayConfig, StandsAt, with_circuit}
use Rattle.gw_switch.proofs.Common.{signalled, Event, octets, life, octet_reply, config_in, nibble_sent, HasHistory}
use Rattle.gw_circuit.specs.Replies as alone
use Rattle.gw_switch.proofs.Rounds.{frame_with-low, frame_with-high}
use Rattle.gw_switch.proofs.Sendings.{sent_at, sends_abcd, slot_of-not16, frame_with-only}
use Rattle.gw_switch.proofs.Views.{CircuitsStand-push, both_go, octets-append, sees_abcd, sees_no_abcd, sees_some}
use Rattle.gw_switch.proofs.Views.{lent_stands, left_stands, others_kept}
use Rattle.gw_switch.proofs.gateway.Gateway.send_nibbles.Goals as goal

-- what a circuit replies to what was signalled to it is sent for it
sent_for : (config : GatewayConfig) (events : List Event) (s : List ℕ) (n c k nibble : ℕ) (heard : Option ℕ)
    → nibble ≡ alone.signal_reply config.law (config_in config events c) (life c events) heard → heard ≡ signalled c s n
    → c ≡ k → nibble ≡ nibble_sent config events s n k
sent_for config events s n c k nibble heard told is own =
    told ∙ ap (alone.signal_reply config.law (config_in config events c) (life c events)) is
    ∙ ap (nibble_sent config events s n) own

pub returns : goal.returns
unfolding octet_reply HasHistory
returns c = λ config events o h sixteen j-is room.
    let n = length (octets events) in
    let s = octets events ++ o ∷ [] in
    let f = (n / 32) % 16 in
    let j = c.args.first in
    let k = c.args.second in
    let is = c.at.ensures.number in
    let is2 = c.at-2.ensures.number in
    let some : 1 ≤ f = omega (arith, j-is, is.0) in
    let k-is : k ≡ f + 15 = c.requires ∙ ap (λ x. x + 15) j-is in
    let heard = c.take_nibbles-heard_high.ensures in
    let high_is = heard.high s n h.trunk sixteen j-is in
    let low_is = heard.low s n h.trunk sixteen j-is in
    let j-frame : f ≡ frame_with j = sym (frame_with-low f (omega arith)) ∙ ap frame_with (sym j-is) in
    let k-frame : f ≡ frame_with k = sym (frame_with-high f some) ∙ ap frame_with (sym k-is) in
    let high = c.signal-high.ensures in
    let low = c.signal-low.ensures in
    let circuits = c.args.self.now.circuits in
    let between = with_circuit circuits j c.signal-high.new.self in
    let first_others = others_kept circuits j c.signal-high.new.self in
    let second_others = others_kept between k c.signal-low.new.self in
    let first_stood = lent_stands circuits j _ _ _ c.at.result.now c.at.ensures.value (h.circuits j is.0 is.1) in
    let was : StandsAt k config.law (config_in config events k) between.channels.items (life k events)
    = λ d. rw (first_others (k - 1) d (omega arith)) (h.circuits k is2.0 is2.1 d) in
    let second_stood = lent_stands between k _ _ _ c.at-2.result.now c.at-2.ensures.value was in
    record {
      reply = rw (
        c.join.ensures.value,
        sent_for config events s n j f _ _ (high.reply _ _ _ first_stood) high_is j-is,
        sent_for config events s n k (f + 15) _ _ (low.reply _ _ _ second_stood) low_is k-is,
      ) (sym (sends_abcd config events s n f (omega (arith, some))))
          ∙ sent_at config events s n 16 f (sym sixteen) refl;
      kept = refl;
      stands = record {
        trunk = rw (octets-append events (Event.Octet o ∷ [])) (heard.sent s n h.trunk sixteen j-is);
        circuits = CircuitsStand-push config _ _ events (Event.Octet o) h.circuits (λ i one most.
            both_go config _ _ _ events (Event.Octet o) j k
            (CircuitEvent.Signal (signalled j s n)) (CircuitEvent.Signal (signalled k s n))
            (left_stands circuits j _ _ _ _ is (rw (sym high_is) (high.stands _ _ _ first_stood))) first_others
            (left_stands between k _ _ _ _ is2 (rw (sym low_is) (low.stands _ _ _ second_stood))) second_others
            (sees_abcd j s n sixteen (slot_of-not16 j) j-frame) (sees_abcd k s n sixteen (slot_of-not16 k) k-frame)
            is.0 is2.0 (λ e. omega (arith, e, j-is, k-is)) i one
            (λ differ_j differ_k. sees_no_abcd i s n (λ e. slot_of-not16 i (sym e ∙ sixteen)) sixteen
            (λ e. frame_with-only i f most e (λ x. differ_j (x ∙ sym j-is)) (λ x. differ_k (x ∙ sym k-is)))));
      };
      others = λ i one most nothing d.
          let unseen = λ (e : f ≡ frame_with i).
          sees_some i s n (CircuitEvent.Signal (signalled i s n)) (sees_abcd i s n sixteen
          (slot_of-not16 i) e) nothing in
          second_others (i - 1) d (λ e.
          let same : i ≡ k = omega (arith, e, one, is2.0) in
          unseen (k-frame ∙ ap frame_with (sym same)))
          ∙ first_others (i - 1) d (λ e.
          let same : i ≡ j = omega (arith, e, one, is.0) in
          unseen (j-frame ∙ ap frame_with (sym same)));
    }
