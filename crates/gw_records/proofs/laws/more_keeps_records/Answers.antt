use Rattle.gw_records.proofs.Readings.{more_keeps}
use Rattle.gw_records.proofs.laws.more_keeps_records.Goals as goal

pub returns : goal.returns
returns c = more_keeps
