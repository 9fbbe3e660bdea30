use Rattle.g704_crc4.proofs.Common.{length, arith, rules}
use Rattle.g704_crc4.proofs.Checked.{counted-more, checks-within, far-end-event-is}
use Rattle.g704_crc4.proofs.checking.Checker.first_octet.Goals as goal

pub returns-clause-reply : goal.returns-clause-reply
returns-clause-reply c history s e = search (rules, far-end-event-is)

pub returns-clause-stands : goal.returns-clause-stands
returns-clause-stands c history s e =
    checks-within c.args.self.now history c.args.octet s _ _ _ (omega arith)
    (counted-more c.args.self.now history c.args.octet s _ _ (c.cleared.ensures (length history) s.place)
    c.number_after-self.ensures) c.check_bits_with-self.ensures (λ z. absurd (omega (arith, z, e)))
