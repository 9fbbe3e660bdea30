use Rattle.g704_crc4.proofs.Checked.{checks-none}
use Rattle.g704_crc4.proofs.checking.Checker.new.Goals as goal

pub returns : goal.returns
returns c = checks-none
