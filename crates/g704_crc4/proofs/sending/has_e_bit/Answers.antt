use Rattle.g704_crc4.proofs.Common.{sym, ◌∙◌, ◌%◌, eq-eqb}
use Rattle.g704_crc4.proofs.Reports.{e-bit-first, e-bit-second}
use Rattle.g704_crc4.proofs.sending.has_e_bit.Goals as goal

pub returns-then-within : goal.returns-then-within
returns-then-within c =
    eq-eqb (c.args.place % 512) 416 c.if-within.true ∙ sym (e-bit-first c.args.place c.if-within.true)

pub returns-else-within : goal.returns-else-within
returns-else-within c = sym (e-bit-second c.args.place c.if-within.false)
