use Rattle.std.proofs.Common.{◌≡◌, ◌+◌, ◌*◌, ◌%◌, refl, sym, ap, ◌∙◌, arith}
use Rattle.g704_slots.specs.Search.{is_right}
use Rattle.g704_slots.proofs.Memories.{kept-frame, right-last, kept-whole}
use Rattle.g704_slots.proofs.Wholes.{not-whole}
use Rattle.g704_slots.proofs.mover.SlotMover.is_whole.Goals as goal

pub returns-then-not-is_signal : goal.returns-then-not-is_signal
returns-then-not-is_signal c first history h long =
    sym (not-whole _ _ 48 (omega arith)
    (right-last history c.args.octet long ∙ sym c.is_signal.ensures ∙ c.if-not-is_signal.true))

pub returns-then-not-is_right : goal.returns-then-not-is_right
returns-then-not-is_right c first history h long =
    let frame = c.loop-frame.frame in
    let at : c.from.result ≡ ((c.args.self.now.at + 560) % 65536 + 31 * frame) % 65536 % 2048 = c.from.ensures in
    sym (not-whole _ _ frame (omega arith)
    (ap (is_right frame) (sym (kept-frame c.args.self.now.memory history c.args.octet c.args.self.now.at
    ((c.args.self.now.at + 560) % 65536) frame h.at h.kept long refl c.loop-frame-test.true))
    ∙ rw (← at) (sym c.is_right.ensures ∙ c.if-not-is_right.true)))

pub returns : goal.returns
returns c first history h long =
    sym (kept-whole c.args.self.now.memory history c.args.octet c.args.self.now.at _ h.at h.kept long refl
    (sym c.is_signal.ensures ∙ c.if-not-is_signal.false)
    (λ frame lt. c.loop-frame.invariant frame (let past = c.loop-frame-test.false in omega arith)))
