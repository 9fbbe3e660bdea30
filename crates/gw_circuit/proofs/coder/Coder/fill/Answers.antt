use Rattle.gw_circuit.proofs.Common.{◌≡◌, ap, ◌∙◌, [], rules, CodedPacket, next_word, with_word}
use Rattle.gw_circuit.proofs.Coders.{one-more-waits, none-waits}
use Rattle.gw_circuit.proofs.coder.Coder.fill.Goals as goal

pub returns-clause-words : goal.returns-clause-words
returns-clause-words c =
    let full : record { codec = c.code_rest.new.codec; packet = c.code_rest.new.packet.items }
    ≡ with_word c.args.self.now (next_word c.args.self.now.codec c.args.octet) =
    c.code_rest.ensures ∙ rw (c.push.ensures.items, ← c.self.view_is)
    (one-more-waits c.codecs_continue.ensures.lists _ _ _ c.args.octet c.self.invariant) in
    rw c.replace.ensures.value (ap (λ (p : CodedPacket). p.packet) full)

pub returns-clause-state : goal.returns-clause-state
returns-clause-state c =
    let full : record { codec = c.code_rest.new.codec; packet = c.code_rest.new.packet.items }
    ≡ with_word c.args.self.now (next_word c.args.self.now.codec c.args.octet) =
    c.code_rest.ensures ∙ rw (c.push.ensures.items, ← c.self.view_is)
    (one-more-waits c.codecs_continue.ensures.lists _ _ _ c.args.octet c.self.invariant) in
    let fresh : c.replace.new.dest.items ≡ [] = search rules in
    rw fresh (none-waits c.codecs_continue.ensures.lists c.code_rest.new.codec
    ∙ ap (λ (p : CodedPacket). record { codec = p.codec; packet = [] }) full)
