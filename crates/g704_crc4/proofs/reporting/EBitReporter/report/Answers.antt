use Rattle.g704_crc4.proofs.Common.{arith}
use Rattle.g704_crc4.proofs.Reports.{unreported-errored}
use Rattle.g704_crc4.proofs.reporting.EBitReporter.report.Goals as goal

pub returns : goal.returns
returns c history s = grind (arith, unreported-errored history c.args.count)
