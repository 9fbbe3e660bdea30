use Rattle.std.proofs.Common.{◌≡◌, ◌+◌, false, refl, sym, ap, ◌∙◌, arith}
use Rattle.std.specs.Prelude.{◌==◌}
use Rattle.std.proofs.lemmas.Bool.{ne_eqb}
use Rattle.g704_slots.specs.Shown.{silence}
use Rattle.g704_slots.proofs.Standing.{shown-searched, shown-followed}
use Rattle.g704_slots.proofs.mover.SlotMover.shown.Goals as goal

pub returns-in-Searching : goal.returns-in-Searching
returns-in-Searching c first before octet h at =
    let m = c.args.self.now in
    sym (shown-searched c.in-Searching.seen c.in-Searching.alone m.pass first m.idle c.args.place before octet
    (rw c.in-Searching.is at h.since) at
    ∙ ap (λ p. silence m.idle (p + 1)) c.if-place-eq-SLOT_16.true)

pub returns-in-Searching-2 : goal.returns-in-Searching-2
returns-in-Searching-2 c first before octet h at =
    let m = c.args.self.now in
    let other : (c.args.place + 1 == 16) ≡ false
    = ne_eqb (c.args.place + 1) 16 (λ e. c.if-place-eq-SLOT_16.false (omega (arith, e))) in
    sym (shown-searched c.in-Searching-2.seen c.in-Searching-2.alone m.pass first m.idle c.args.place
    before octet (rw c.in-Searching-2.is at h.since) at
    ∙ rw other refl)

pub returns-in-Aligned : goal.returns-in-Aligned
returns-in-Aligned c first before octet h at =
    let m = c.args.self.now in
    rw (c.from-in-Aligned.ensures, c.from.ensures)
    (shown-followed c.in-Aligned.frame m.pass c.in-Aligned.wrong c.in-Aligned.zero c.in-Aligned.late first m.idle
    m.at m.memory before octet (rw c.in-Aligned.is at h.since) h.at h.kept)
