use Rattle.gw_switch.proofs.Common.{◌≡◌, ℕ, ◌<◌, ◌≤◌, ◌/◌, ◌%◌, ◌++◌, ◌∷◌, [], length, refl, sym, ap, ◌∙◌, arith, Event}
use Rattle.gw_switch.proofs.Common.{octets, octet_reply, HasHistory}
use Rattle.gw_switch.proofs.Rounds.{none_in_zero, none_in_first, frame_with-not0}
use Rattle.gw_switch.proofs.Sendings.{sent_at, sends_frame, sends_multiframe, slot_of-not16, slot_of-not0}
use Rattle.gw_switch.proofs.Views.{stay, octets-append, sees_nothing, sees_no_abcd}
use Rattle.gw_switch.proofs.gateway.Gateway.send_framing.Goals as goal

-- a frame of the multiframe in which no circuit has its bits is frame 0
frame_zero : (frame : ℕ) → frame < 16 → ¬ ((1 ≤ frame) × (frame ≤ 15)) → frame ≡ 0
frame_zero frame small none = grind (arith, none)

-- slot 0
pub returns-then-slot-eq0 : goal.returns-then-slot-eq0
unfolding octet_reply HasHistory
returns-then-slot-eq0 c = λ config events o h divides room.
    let n = length (octets events) in
    let s = octets events ++ o ∷ [] in
    let slot = c.slot.ensures.value s n h.trunk in
    let zero : n % 32 ≡ 0 = sym slot ∙ c.if-slot-eq0.true in
    let passed = c.skip_turn.ensures s n h.trunk (none_in_zero n zero) in
    rw c.work_together.ensures record {
      reply = rw (c.slot_zero.ensures, c.alarms.ensures s passed)
          (sym (sends_frame config events s n _ _ c.if-slot-eq0.true))
          ∙ sent_at config events s n _ _ slot (c.frame-frame.ensures.value s n h.trunk);
      kept = refl;
      stands = record {
        trunk = rw (octets-append events (Event.Octet o ∷ [])) passed;
        circuits = stay config _ events (Event.Octet o) h.circuits (λ k low.
            sees_nothing k s n (λ e. slot_of-not0 k low (sym e ∙ zero)) (omega (arith, zero)));
      };
      others = λ k low high nothing d. refl;
    }

-- slot 16 of frame 0
pub returns-in-None : goal.returns-in-None
unfolding octet_reply HasHistory
returns-in-None c = λ config events o h divides room.
    let n = length (octets events) in
    let s = octets events ++ o ∷ [] in
    let sixteen : n % 32 ≡ 16 = omega (arith, c.slot.ensures.value s n h.trunk, divides, c.if-slot-eq0.false) in
    let first : (n / 32) % 16 ≡ 0 = sym (c.frame-frame.ensures.value s n h.trunk)
    ∙ frame_zero _ c.frame-frame.ensures.in_multiframe c.in-None.ensures.reply in
    let passed = c.skip_turn-in-None.ensures s n h.trunk (none_in_first n sixteen first) in
    record {
      reply = rw (c.multiframe_signal.ensures, c.alarms-in-None.ensures s passed)
          (sym (sends_multiframe config events s n _ _ sixteen first));
      kept = refl;
      stands = record {
        trunk = rw (octets-append events (Event.Octet o ∷ [])) passed;
        circuits = stay config _ events (Event.Octet o) h.circuits (λ k low.
            sees_no_abcd k s n (λ e. slot_of-not16 k (sym e ∙ sixteen)) sixteen
            (λ e. frame_with-not0 k low (sym e ∙ first)));
      };
      others = λ k low high nothing d. refl;
    }

-- slot 16 of the other frames
pub returns-in-Some : goal.returns-in-Some
returns-in-Some c = λ config events o h divides room.
    let n = length (octets events) in
    let s = octets events ++ o ∷ [] in
    c.send_nibbles.ensures config events o h
    (omega (arith, c.slot.ensures.value s n h.trunk, divides, c.if-slot-eq0.false))
    (ap (λ both. both.0) c.in-Some.ensures.reply.1 ∙ c.frame-frame.ensures.value s n h.trunk) room
