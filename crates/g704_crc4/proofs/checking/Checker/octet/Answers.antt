use Rattle.g704_crc4.proofs.Common.{◌≡◌, ◌+◌, ◌%◌, ap, ◌∙◌, arith, nat_le, same, block_event}
use Rattle.g704_crc4.proofs.Checked.{counted-more, checks-within, checks-last, bits-kept, none_reported, taken-whole}
use Rattle.g704_crc4.proofs.Checked.{block-event-is, far-end-event-is}
use Rattle.g704_crc4.proofs.checking.Checker.octet.Goals as goal

pub returns-then-self-eq0-2-clause-reply : goal.returns-then-self-eq0-2-clause-reply
returns-then-self-eq0-2-clause-reply c history s =
    let m = c.args.self.now in
    c.end_submultiframe.ensures.reply
    ∙ ap (λ w. block_event m.begun (same w m.before)) (bits-kept m history c.args.octet s c.if-self-eq0.false)
    ∙ block-event-is m history c.args.octet s _ (omega arith) c.if-self-eq0-2.true

pub returns-then-self-eq0-2-clause-stands : goal.returns-then-self-eq0-2-clause-stands
returns-then-self-eq0-2-clause-stands c history s =
    let m = c.args.self.now in
    let kept = c.end_submultiframe.ensures.kept in
    let anew = c.end_submultiframe.ensures.anew in
    let left = counted-more m history c.args.octet s c.args.octet _
    (taken-whole m history c.args.octet s c.if-self-eq0.false) c.number_after-self.ensures in
    checks-last m history c.args.octet s c.end_submultiframe.new.self (omega (arith, kept.0))
    (ap (λ n. n % 256) kept.0 ∙ c.if-self-eq0-2.true) (c.end_submultiframe.ensures.before _ left) anew.0 anew.1

pub returns-clause-reply : goal.returns-clause-reply
returns-clause-reply c history s =
    let m = c.args.self.now in
    let next : (m.place + 1) % 65536 % 512 ≡ (m.place + 1) % 512 = omega arith in
    none_reported m history c.args.octet s (nat_le 128 c.args.octet) c.if-self-eq0.false
    ∙ far-end-event-is m history c.args.octet s ((m.place + 1) % 65536 % 512) next c.if-self-eq0-2.false

pub returns-clause-stands : goal.returns-clause-stands
returns-clause-stands c history s =
    let m = c.args.self.now in
    checks-within m history c.args.octet s _ _ _ (omega arith)
    (counted-more m history c.args.octet s c.args.octet _ (taken-whole m history c.args.octet s c.if-self-eq0.false)
    c.number_after-self.ensures) (bits-kept m history c.args.octet s c.if-self-eq0.false) c.if-self-eq0-2.false
