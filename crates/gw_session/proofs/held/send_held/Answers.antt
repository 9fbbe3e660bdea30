use Rattle.gw_session.proofs.Common.{◌++◌, ◌∷◌, [], take, map_push, arith, packets_held, take_more, ap, sym, ◌∙◌}
use Rattle.gw_session.specs.declared.held.HeldPacket.{HeldPacket}
use Rattle.gw_session.proofs.PacketsSent.{sends_more, sent_silently, takes_on}
use Rattle.gw_session.proofs.held.send_held.Goals as goal

pub loop-i-preserved : goal.loop-i-preserved
loop-i-preserved g c =
    let w = c.loop-i.invariant in
    let packet = c.index-held-i.result in
    let silent = c.requires.silent (omega (arith, c.loop-i-test.true)) in
    let more = take_more c.args.held.now c.loop-i.i packet c.loop-i-test.true
    ∙ ap (λ (p : HeldPacket). take c.loop-i.i c.args.held.now ++ p ∷ []) (sym c.index-held-i.is) in
    let held = ap packets_held more ∙ map_push (λ (p : HeldPacket). (p.circuit, p.octets.items)) _ packet in
    let sent = sent_silently g.O.PacketPorts.spells (packet.circuit, packet.octets.items) c.send_packet.result silent
    c.send_packet.ensures.some c.send_packet.ensures.sends c.send_packet.ensures.puts in
    record {
      sends = rw held (sends_more _ _ _ _ _ _ _ _ w.sends sent.0);
      passes = takes_on _ _ _ _ _ _ w.passes sent.1;
      no_failure = sent.2 ∙ w.no_failure;
      input = c.send_packet.ensures.input ∙ w.input;
      terms = c.send_packet.ensures.terms ∙ w.terms;
    }
