use Rattle.gw_circuit.proofs.Common.{◌≡◌, ap, ◌∙◌, rules, arith, octets_of, plain_datagram, drawn_words, CodedPacket}
use Rattle.gw_circuit.proofs.Hearing.{heard-full, encodes-next}
use Rattle.gw_circuit.proofs.speech.Speech.send.Goals as goal

pub returns-clause-datagram : goal.returns-clause-datagram
returns-clause-datagram c law coding size prefill octets calls s =
    let next = encodes-next law coding.kind octets (drawn_words prefill calls)
    (c.codecs_continue.ensures.histories law coding.kind octets (drawn_words prefill calls))
    c.args.self.now.coder.codec c.args.octet s.codec in
    let full = heard-full c.args.self.now _ _ _ _ _ _ c.args.octet _ c.fill-words.result.items
    c.words_are_counted.ensures s c.fill-words.ensures.words next.0 (omega arith) in
    let made : c.packetise.new.datagram.items
    ≡ plain_datagram c.args.header.now (octets_of c.bits.result c.fill-words.result.items) = search rules in
    (full.0, made ∙ ap (plain_datagram c.args.header.now) (full.1 _ c.bits.ensures))

pub returns-clause-speaks : goal.returns-clause-speaks
returns-clause-speaks c law coding size prefill octets calls s =
    let next = encodes-next law coding.kind octets (drawn_words prefill calls)
    (c.codecs_continue.ensures.histories law coding.kind octets (drawn_words prefill calls))
    c.args.self.now.coder.codec c.args.octet s.codec in
    let full = heard-full c.args.self.now _ _ _ _ _ _ c.args.octet _ c.fill-words.result.items
    c.words_are_counted.ensures s c.fill-words.ensures.words next.0 (omega arith) in
    record {
      kind_is = s.kind_is;
      type_is = s.type_is;
      size_is = s.size_is;
      codec = ap (λ (p : CodedPacket). p.codec) c.fill-words.ensures.state ∙ next.1;
      playout = s.playout;
      packet = ap (λ (p : CodedPacket). p.packet) c.fill-words.ensures.state ∙ full.2;
    }
