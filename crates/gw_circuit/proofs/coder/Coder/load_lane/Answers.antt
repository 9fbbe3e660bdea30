use Rattle.gw_circuit.proofs.Common.{◌≡◌, ◌-◌, ◌∙◌, ap, sym, length, drop, length-drop, rules, arith, take_all}
use Rattle.gw_circuit.proofs.Common.{CodedPacket}
use Rattle.gw_circuit.proofs.Coders.{loaded-is}
use Rattle.gw_circuit.proofs.coder.Coder.load_lane.Goals as goal

pub returns-clause-loaded : goal.returns-clause-loaded
returns-clause-loaded c = λ yes.
    let s = c.self-2.inside in
    let kept = c.self.view_is ∙ sym c.code.ensures ∙ sym c.self-2.view_is in
    let asked : c.args.bundle.now.kind ≡ c.self.inside.codec.kind = search rules in
    let asked_law : c.args.bundle.now.law ≡ c.self.inside.codec.law = search rules in
    let kind : c.args.bundle.now.kind ≡ s.codec.kind = asked ∙ ap (λ (p : CodedPacket). p.codec.kind) kept in
    let law : c.args.bundle.now.law ≡ s.codec.law = asked_law ∙ ap (λ (p : CodedPacket). p.codec.law) kept in
    let left = length-drop s.coded s.packet.items in
    rw (← c.self-2.view_is)
    (loaded-is s.codec s.packet.items s.coded _ _ _ _ (c.load.ensures.kept.1 ∙ kind) (c.load.ensures.kept.0 ∙ law)
    (c.load.ensures.state ∙ c.encoder.ensures)
    ((rw (c.from.ensures, c.as_slice.ensures.value) at c.load.ensures.octets)
    ∙ take_all (length s.packet.items - s.coded) (drop s.coded s.packet.items) (omega (arith, left))))
