use Rattle.gw_records.proofs.Common.{err_from_is_err_and, rules}
use Rattle.gw_records.proofs.Writes.{TakesAllButWaiting-after, FailsAfterPrefix-after, FailsAfterPrefix-more}
use Rattle.gw_records.proofs.writing.put.Goals as goal

pub returns-clause-puts : goal.returns-clause-puts
returns-clause-puts g c = search (rules, TakesAllButWaiting-after)

pub returns-in_err-put_first-clause-puts : goal.returns-in_err-put_first-clause-puts
returns-in_err-put_first-clause-puts g c = search (rules, err_from_is_err_and, FailsAfterPrefix-after)

pub returns-in_err-flush-clause-puts : goal.returns-in_err-flush-clause-puts
returns-in_err-flush-clause-puts g c = search (rules, err_from_is_err_and, FailsAfterPrefix-more)
