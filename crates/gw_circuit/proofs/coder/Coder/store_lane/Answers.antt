use Rattle.gw_circuit.proofs.Common.{◌≡◌, ◌++◌, ◌≤◌, ◌+◌, ℕ, List, length, take, ap, sym, ◌∙◌, rules, arith}
use Rattle.gw_circuit.proofs.Common.{length-take-le}
use Rattle.gw_circuit.proofs.Coders.{stored-is}
use Rattle.gw_circuit.proofs.coder.Coder.store_lane.Goals as goal

pub returns : goal.returns
returns c =
    let s = c.self.inside in
    let done = c.requires.coded in
    let words = take c.args.bundle.now.count c.octets-row.result in
    let many : length words ≡ c.args.bundle.now.count =
    length-take-le c.args.bundle.now.count c.octets-row.result (search rules) in
    let last : length s.packet.items ≡ s.coded + length words =
    omega (arith, many, c.if-len-from.false, c.len.ensures.value, c.from-from.ensures) in
    let all : length c.put_words.new.packet.items ≤ c.len-2.result = omega (arith, c.len-2.ensures.value) in
    rw (← c.self.view_is)
    (stored-is c.codecs_continue.ensures.lists s.codec c.set_encoder.new.self s.packet.items
    c.put_words.new.packet.items words done.front c.state.result s.coded c.len-2.result c.self.invariant last
    ((rw (← c.self.view_is) at done.packet) ∙ ap (λ (ws : List ℕ). done.front ++ ws) (sym c.octets-row.ensures))
    ((rw (← c.self.view_is) at done.encoder) ∙ sym c.state.ensures) c.set_encoder.ensures
    c.put_words.ensures all)
