use Rattle.gw_session.proofs.Common.{◌≡◌, ◌∷◌, [], ap, sym, refl, ◌∙◌, ℕ, List, length}
use Rattle.gw_session.proofs.Common.{length-append, arith, length-take, length-map, packets_held, append-nil, state_with, packet_in, if◌then◌else◌}
use Rattle.gw_session.specs.declared.exchange.SessionBuffers.{SessionBuffers}
use Rattle.gw_session.specs.declared.held.HeldPacket.{HeldPacket}
use Rattle.gw_session.specs.declared.held.HeldPackets.{HeldPackets}
use Rattle.gw_session.proofs.PacketsSent.{exchange_is, heard_quietly}
use Rattle.gw_session.proofs.Exchanging.{heard_more, none_before, few_now}
use Rattle.gw_session.proofs.Watching.{shown_heard}
use Rattle.gw_session.proofs.exchange.SessionBuffers.hear.Goals as goal

pub loop-i-preserved : goal.loop-i-preserved
loop-i-preserved g c =
    let w = c.loop-i.invariant in
    let octets = c.args.octets.now in
    let came = c.receive_datagrams.ensures.others in
    let held = ap (λ (s : SessionBuffers). s.held) came in
    let mode = ap (λ (s : SessionBuffers). s.holding) came in
    let kept = ap (λ (s : SessionBuffers). s.answer.items) came in
    let others = c.hear_octet.ensures.others in
    let same = ap (λ (s : SessionBuffers). s.recorded) others in
    let batch = ap (λ (s : SessionBuffers). s.batch.items) others in
    let counts = ap (λ (s : SessionBuffers). s.totals) others in
    let on = ap (λ (s : SessionBuffers). s.holding) others ∙ mode ∙ w.holding in
    let keeps = c.receive_datagrams.ensures.comes.no_sends in
    let as_packet : HeldPacket → ℕ × List ℕ = λ p. (p.circuit, p.octets.items) in
    let heard = rw (c.in_default.is, mode ∙ w.holding, held, kept) at c.hear_octet.ensures.hears in
    record {
      heard = λ world begun o none h.
          let p = w.heard world begun o none h in
          let comes = rw w.holds at c.receive_datagrams.ensures.comes in
          let q = exchange_is (none_before octets c.loop-i.i c.loop-i.self.recorded p none) (shown_heard _) comes
          (heard_quietly g.O.PacketPorts.spells c.args.self.now.held.holds
          (g.O.PacketPorts.tells c.receive_datagrams.new.packet_ports) c.receive_datagrams.new.self.totals o
          c.requires.silent heard) in
          rw (same, batch, counts) (heard_more octets c.loop-i.i c.loop-i.self.recorded _ heard.sent p c.loop-i-test.true q
          heard.behind);
      count = omega (arith, ap length heard.behind, length-append c.loop-i.self.answer.items (heard.sent ∷ []), w.count);
      order = rw same (omega (arith, c.receive_datagrams.ensures.comes.records.within, length-take c.loop-i.i octets));
      room = λ now. omega (
        arith,
        w.room (w.holding ∙ sym on ∙ now),
        length-map c.hear_octet.new.self.held.packets.items as_packet,
        length-map c.loop-i.self.held.packets.items as_packet,
        ap length heard.held_are,
        length-append (packets_held c.loop-i.self.held.packets.items)
            (if c.args.self.now.holding then packet_in heard.packet else []),
        few_now c.args.self.now.holding heard.packet,
      );
      no_sends = (keeps.0 ∙ w.no_sends.0, keeps.1 ∙ w.no_sends.1, keeps.2 ∙ w.no_sends.2);
      holding = on;
      holds = c.hear_octet.ensures.holds ∙ ap (λ (h : HeldPackets). h.holds) held ∙ w.holds;
    }

pub returns-in-Some-clause-hears : goal.returns-in-Some-clause-hears
returns-in-Some-clause-hears g c = λ world begun o none h.
    let w = c.loop-i.invariant in
    let octets = c.args.octets.now in
    let came = c.receive_datagrams.ensures.others in
    let held = ap (λ (s : SessionBuffers). s.held) came in
    let mode = ap (λ (s : SessionBuffers). s.holding) came in
    let kept = ap (λ (s : SessionBuffers). s.answer.items) came in
    let others = c.hear_octet.ensures.others in
    let heard = rw (c.in-Some.is, mode ∙ w.holding, held, kept) at c.hear_octet.ensures.hears in
    let p = w.heard world begun o none h in
    let same = ap (λ (s : SessionBuffers). s.recorded) others in
    let batch = ap (λ (s : SessionBuffers). s.batch.items) others in
    let counts = ap (λ (s : SessionBuffers). s.totals) others in
    let still : packets_held c.hear_octet.new.self.held.packets.items ≡ packets_held c.loop-i.self.held.packets.items
    = (rw heard.now.0 at heard.held_are) ∙ append-nil _ in
    let comes = rw w.holds at c.receive_datagrams.ensures.comes in (
      heard.now.0,
      record {
        i = c.loop-i.i;
        within = c.loop-i-test.true;
        between = record {
          state = state_with c.args.self.now.held.holds (packets_held c.loop-i.self.held.packets.items)
              (g.O.PacketPorts.tells c.loop-i.packet_ports) c.loop-i.gateway c.loop-i.self.totals;
          tape = g.T.Tape.tells c.loop-i.observers.tape;
          output = o;
        };
        seen = c.loop-i.observers.watch;
        batch_then = c.loop-i.self.batch.items;
        recorded_then = c.loop-i.self.recorded;
        answer_then = c.loop-i.self.answer.items;
        heard = rw heard.now.0 at p;
        output_is = refl;
        gateway = c.receive_datagrams.new.gateway;
        comes = rw (still, counts, same, batch) comes;
        sent = heard.sent;
        behind = heard.behind;
        hears = λ config before at. rw heard.now.1 at (heard.hears config before at);
      },
    )

pub returns-clause-hears : goal.returns-clause-hears
returns-clause-hears g c = λ world begun o none h.
    let start = c.loop-i.auto.i-end (omega (arith, c.requires.heard, c.len-i.ensures.value)) in
    let end : c.loop-i.i ≡ length c.args.octets.now = omega (arith, c.loop-i-test.false, start) in
    rw (← end) (c.loop-i.invariant.heard world begun o none h)
