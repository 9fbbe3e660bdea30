use Rattle.g704_crc4.proofs.Common.{◌∙◌, length}
use Rattle.g704_crc4.proofs.Reports.{e-bit-place}
use Rattle.g704_crc4.proofs.sending.Crc4Inserter.next_has_e_bit.Goals as goal

pub returns : goal.returns
returns c history s = c.has_e_bit.ensures ∙ e-bit-place c.args.self.now.place (length history) s.place
