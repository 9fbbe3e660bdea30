use Rattle.std.proofs.Common.{◌≡◌, ◌≤◌, ◌+◌, ◌*◌, [], ◌∷◌, ◌++◌, length, ap, sym, ◌∙◌, arith, refl, zero-add}
use Rattle.std.proofs.Math.ListN.{drop_of_length-le}
use Rattle.std.proofs.lemmas.List.{take_all, length-drop, length-append}
use Rattle.gw_satop.specs.declared.log.History.{History}
use Rattle.gw_satop.proofs.Packets.{packets-more}
use Rattle.gw_satop.proofs.sender.Sender.packet.Goals as goal

pub invariant_of-self : goal.invariant_of-self
invariant_of-self c =
    let k = length c.args.self.now.log.flags in
    let size = c.args.self.now.start.size in
    let came = c.args.self.now.came.octets in
    let flags : c.flag.new.self.flags ≡ c.args.self.now.log.flags ++ c.args.missing ∷ [] =
    ap (λ (h : History). h.flags) c.flag.ensures in
    let more : length c.flag.new.self.flags ≡ k + 1 =
    omega (arith, ap length flags, length-append c.args.self.now.log.flags (c.args.missing ∷ [])) in
    let whole : length came ≡ k * size + size =
    omega (
      arith,
      ap length c.args.self.now.held_are,
      length-drop (k * size) came,
      c.args.self.now.sent_all,
      c.args.self.now.few,
    ) in
    let all : length came ≤ length c.flag.new.self.flags * size = rw more (omega (arith, whole)) in
    record {
      size_is = c.args.self.now.size_is;
      sequence_is = rw (more, c.args.self.now.sequence_is) (omega arith);
      timestamp_is = rw (more, c.args.self.now.timestamp_is) (omega arith);
      held_are = c.clear.ensures ∙ sym (drop_of_length-le came all);
      sent_all = rw more (omega (arith, whole));
      few = rw c.clear.ensures (omega arith);
    }

pub returns-clause-sent : goal.returns-clause-sent
returns-clause-sent c _ =
    let s = c.args.self.now in
    let flags : c.flag.new.self.flags ≡ c.args.self.now.log.flags ++ c.args.missing ∷ [] =
    ap (λ (h : History). h.flags) c.flag.ensures in
    rw (
      flags,
      packets-more s.start 0 s.log.flags c.args.missing s.came.octets,
      c.write_packet.ensures,
      ← s.held_are,
      take_all s.start.size s.held.items s.few,
      zero-add (length s.log.flags),
    ) refl
