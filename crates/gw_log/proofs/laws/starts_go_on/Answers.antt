use Rattle.gw_log.proofs.Starting.{starts_go_on}
use Rattle.gw_log.proofs.laws.starts_go_on.Goals as goal

pub returns : goal.returns
returns c =
    starts_go_on c.logs_are_left.ensures c.loaded_gateways_go_on.ensures c.at_most_one_reading.ensures
