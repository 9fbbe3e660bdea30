use Rattle.gw_records.proofs.Readings.{one_reading}
use Rattle.gw_records.proofs.laws.at_most_one_reading.Goals as goal

pub returns : goal.returns
returns c = one_reading
