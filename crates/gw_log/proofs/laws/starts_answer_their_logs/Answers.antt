use Rattle.gw_log.proofs.Lives.{starts_answer}
use Rattle.gw_log.proofs.laws.starts_answer_their_logs.Goals as goal

pub returns : goal.returns
returns c =
    starts_answer c.logs_are_left.ensures c.loaded_gateways_go_on.ensures c.at_most_one_reading.ensures
    c.cut_sessions_answer_their_logs.ensures
