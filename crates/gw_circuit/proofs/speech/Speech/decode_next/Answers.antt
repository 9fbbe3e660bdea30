use Rattle.gw_circuit.proofs.Common.{sym, ap, ◌∙◌, drawn_words, CodedPacket}
use Rattle.gw_circuit.proofs.Playing.{sounds, silent, drawn-some, decodes-next}
use Rattle.gw_circuit.proofs.speech.Speech.decode_next.Goals as goal

pub returns-in-Some-clause-sound : goal.returns-in-Some-clause-sound
returns-in-Some-clause-sound c law coding size prefill octets calls s =
    let words = drawn_words prefill calls in
    sounds c.drawn_words_are_answers.ensures.takes law coding.kind prefill calls c.in-Some.word c.decode.result
    (c.in-Some.ensures.reply prefill calls s.playout)
    (decodes-next law coding.kind octets words (c.codecs_continue.ensures.histories law coding.kind octets words)
    c.args.self.now.coder.codec c.args.kind c.in-Some.word c.decode.result s.codec
    (sym c.requires.kind ∙ s.kind_is) c.decode.ensures.octet).0

pub returns-in-Some-clause-speaks : goal.returns-in-Some-clause-speaks
returns-in-Some-clause-speaks c law coding size prefill octets calls s =
    let words = drawn_words prefill calls in
    let next = decodes-next law coding.kind octets words
    (c.codecs_continue.ensures.histories law coding.kind octets words) c.args.self.now.coder.codec c.args.kind
    c.in-Some.word c.decode.result s.codec (sym c.requires.kind ∙ s.kind_is) c.decode.ensures.octet in
    record {
      kind_is = s.kind_is;
      type_is = s.type_is;
      size_is = s.size_is;
      codec = rw (drawn-some c.drawn_words_are_answers.ensures.takes prefill calls c.in-Some.word
          (c.in-Some.ensures.reply prefill calls s.playout))
          (ap (λ (p : CodedPacket). p.codec) c.decode.ensures.state ∙ next.1);
      playout = c.in-Some.ensures.stands prefill calls s.playout;
      packet = ap (λ (p : CodedPacket). p.packet) c.decode.ensures.state ∙ s.packet;
    }

pub returns-in-None-clause-sound : goal.returns-in-None-clause-sound
returns-in-None-clause-sound c law coding size prefill octets calls s =
    silent law coding.kind prefill calls (c.in-None.ensures.reply prefill calls s.playout)
