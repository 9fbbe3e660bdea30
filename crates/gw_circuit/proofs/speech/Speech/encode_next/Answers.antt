use Rattle.gw_circuit.proofs.Common.{arith, ap, ◌∙◌, drawn_words, CodedPacket}
use Rattle.gw_circuit.proofs.Hearing.{heard-short, encodes-next}
use Rattle.gw_circuit.proofs.speech.Speech.encode_next.Goals as goal

pub returns-clause-short : goal.returns-clause-short
returns-clause-short c law coding size prefill octets calls s =
    let next = encodes-next law coding.kind octets (drawn_words prefill calls)
    (c.codecs_continue.ensures.histories law coding.kind octets (drawn_words prefill calls))
    c.args.self.now.coder.codec c.args.octet s.codec in
    (heard-short _ _ _ _ _ _ _ c.args.octet _ _ c.words_are_counted.ensures s
    (ap (λ (p : CodedPacket). p.packet) c.hear.ensures.state) next.0 (omega arith)).0

pub returns-clause-speaks : goal.returns-clause-speaks
returns-clause-speaks c law coding size prefill octets calls s =
    let next = encodes-next law coding.kind octets (drawn_words prefill calls)
    (c.codecs_continue.ensures.histories law coding.kind octets (drawn_words prefill calls))
    c.args.self.now.coder.codec c.args.octet s.codec in
    record {
      kind_is = s.kind_is;
      type_is = s.type_is;
      size_is = s.size_is;
      codec = ap (λ (p : CodedPacket). p.codec) c.hear.ensures.state ∙ next.1;
      playout = s.playout;
      packet =
          (heard-short _ _ _ _ _ _ _ c.args.octet _ _ c.words_are_counted.ensures s
          (ap (λ (p : CodedPacket). p.packet) c.hear.ensures.state) next.0 (omega arith)).1;
    }
