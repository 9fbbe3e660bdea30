use Rattle.g704_crc4.proofs.Common.{◌%◌, length, sym, arith, ◌≢◌, no_remainder, sent_octet, rules}
use Rattle.g704_crc4.proofs.Sent.{at-other}
use Rattle.g704_crc4.proofs.Steps.{next-within, sends-more}
use Rattle.g704_crc4.proofs.sending.Crc4Inserter.octet.Goals as goal

pub returns-clause-reply : goal.returns-clause-reply
unfolding sent_octet
returns-clause-reply c history s = search (rules, at-other)

pub returns-clause-stands : goal.returns-clause-stands
returns-clause-stands c history s =
    let within : length history % 32 ≢ 0 = λ z. c.if-self-eq0.false (omega (arith, z)) in
    let next = next-within c.args.self.now history s (λ z. within (omega (arith, z))) in
    sends-more c.args.self.now history c.args.octet c.args.octet _ _ next
    (sym (at-other no_remainder (length history) c.args.octet within)) (omega arith)
    (c.number_after-self.ensures _ next.running)
