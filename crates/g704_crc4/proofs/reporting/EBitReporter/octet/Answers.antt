use Rattle.g704_crc4.proofs.Common.{sym, ◌∙◌, rules}
use Rattle.g704_crc4.proofs.Reports.{without-bit, with-bit}
use Rattle.g704_crc4.proofs.reporting.EBitReporter.octet.Goals as goal

pub returns-then-not-has_bit-clause-reply : goal.returns-then-not-has_bit-clause-reply
returns-then-not-has_bit-clause-reply c history s e =
    (without-bit c.args.self.now history c.args.octet s (sym e ∙ c.if-not-has_bit.true)).0

pub returns-then-not-has_bit-clause-stands : goal.returns-then-not-has_bit-clause-stands
returns-then-not-has_bit-clause-stands c history s e =
    (without-bit c.args.self.now history c.args.octet s (sym e ∙ c.if-not-has_bit.true)).1

pub returns-clause-reply : goal.returns-clause-reply
returns-clause-reply c history s e = search (rules, with-bit)

pub returns-clause-stands : goal.returns-clause-stands
returns-clause-stands c history s e =
    (with-bit c.args.self.now history c.args.octet _ s (sym e ∙ c.if-not-has_bit.false)
    c.saturating_sub-self.ensures).1
