use Rattle.gw_circuit.proofs.Common.{◌≤◌, length, rules}
use Rattle.gw_circuit.proofs.Coders.{front-coded}
use Rattle.gw_circuit.proofs.coder.Coder.code.Goals as goal

pub returns-then-from-end : goal.returns-then-from-end
returns-then-from-end c =
    let s = c.self.inside in
    let slice = c.as_mut_slice.ensures.value in
    let within : c.saturating_sub-end.result ≤ length s.packet.items = search rules in
    rw (← c.self.view_is)
    (front-coded c.codecs_continue.ensures.lists s.codec c.code_before.new.codec s.packet.items
    c.code_before.new.octets s.coded c.saturating_sub-end.result (search rules) within
    (rw slice at c.code_before.ensures.state) (rw slice at c.code_before.ensures.octets)
    (rw slice at c.code_before.ensures.len))
