use Rattle.g704_crc4.proofs.Steps.{sends-none}
use Rattle.g704_crc4.proofs.sending.Crc4Inserter.new.Goals as goal

pub returns : goal.returns
returns c = sends-none
