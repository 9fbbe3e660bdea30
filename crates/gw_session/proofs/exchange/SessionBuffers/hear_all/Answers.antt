use Rattle.gw_session.proofs.Common.{ap, refl, ◌∙◌, ℕ, List, length, arith, length-map}
use Rattle.gw_session.proofs.Common.{err_from_is_err_and}
use Rattle.gw_session.specs.declared.held.HeldPacket.{HeldPacket}
use Rattle.gw_session.proofs.Exchanging.{heard_none, held_few, body_is, not_both, paused_sent, paused_failed}
use Rattle.gw_session.proofs.exchange.SessionBuffers.hear_all.Goals as goal

pub hearing-init : goal.hearing-init
hearing-init g c = record {
  heard = rw (c.requires.unheard.0, c.requires.unheard.1, c.requires.empty.1)
      (heard_none _ _ _ _ _ _ _ c.requires.empty.0);
  within = omega (arith, ap length c.requires.unheard.0);
  still = λ on. refl;
  no_failure = refl;
  input = refl;
  terms = refl;
  holding = refl;
  holds = refl;
}

pub hear-paused-requires-clause-room : goal.hear-paused-requires-clause-room
hear-paused-requires-clause-room g c = λ on.
    let as_packet : HeldPacket → ℕ × List ℕ = λ p. (p.circuit, p.octets.items) in
    omega (
      arith,
      held_few _ _ _ c.hearing.invariant.heard refl,
      length-map c.hearing.self.held.packets.items as_packet,
    )

pub returns-in_default-clause-hears : goal.returns-in_default-clause-hears
returns-in_default-clause-hears g c =
    let w = c.hearing.invariant in
    let body = body_is (rw (c.requires.trunk, w.input) at c.body-octets.ensures) in
    let hears = rw (body, w.holding, w.holds, c.in_default.is) at c.hear-paused.ensures.hears in (
      hears _ _ _ refl (rw w.holding at w.heard),
      λ on. rw (c.hear-paused.ensures.no_sends.0, c.hear-paused.ensures.no_sends.1) (w.still (w.holding ∙ on)),
    )

pub hearing-preserved : goal.hearing-preserved
hearing-preserved g c =
    let w = c.hearing.invariant in
    let body = body_is (rw (c.requires.trunk, w.input) at c.body-octets.ensures) in
    let hears = rw (body, w.holding, w.holds, c.in-Some.is) at c.hear-paused.ensures.hears in
    let paused = hears _ _ _ refl (rw w.holding at w.heard) in
    let mode = c.hear-paused.ensures.holding ∙ w.holding in
    let off = mode ∙ paused.0 in
    let puts = c.in_ok-send_packet.ensures.puts in
    record {
      heard = rw off (paused_sent _ _ _ paused.1 refl c.in_ok-send_packet.ensures.sends puts.0 puts.1);
      within = rw body at c.hear-paused.ensures.within;
      still = not_both _ off;
      no_failure = puts.1 ∙ w.no_failure;
      input = c.send_packet.ensures.input ∙ w.input;
      terms = c.send_packet.ensures.terms ∙ w.terms;
      holding = mode;
      holds = c.hear-paused.ensures.holds ∙ w.holds;
    }

pub returns-in_err-send_packet-clause-hears : goal.returns-in_err-send_packet-clause-hears
returns-in_err-send_packet-clause-hears g c =
    let w = c.hearing.invariant in
    let body = body_is (rw (c.requires.trunk, w.input) at c.body-octets.ensures) in
    let hears = rw (body, w.holding, w.holds, c.in-Some.is) at c.hear-paused.ensures.hears in
    let paused = hears _ _ _ refl (rw w.holding at w.heard) in
    let p = err_from_is_err_and c.from_residual.result c.from_residual.ensures.1 in
    let sent = c.in_err-send_packet.ensures in
    let stops = paused_failed _ _ (g.L.Line.output c.send_packet.new.line) paused.1 sent.kept sent.some sent.puts.1 in
    rw (p.1, p.2) (sent.puts.0, stops.0, stops.1)
