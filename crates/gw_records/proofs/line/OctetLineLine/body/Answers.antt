use Rattle.gw_records.proofs.Common.{◌-◌, arith, drop-take}
use Rattle.gw_records.proofs.line.OctetLineLine.body.Goals as goal

pub returns : goal.returns
returns g c = grind (arith, drop-take 4 (c.args.first.now.len - 4) c.held.result.now)
