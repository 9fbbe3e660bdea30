use Rattle.g704_crc4.proofs.Common.{refl}
use Rattle.g704_crc4.specs.Reporting.{unreported_after}
use Rattle.g704_crc4.proofs.reporting.EBitReporter.new.Goals as goal

pub returns : goal.returns
unfolding unreported_after
returns c = record { unreported = refl }
