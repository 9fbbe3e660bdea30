use Rattle.gw_records.proofs.Common.{length-take, held, rules, drop-append-le}
use Rattle.gw_records.proofs.reader.Reader.refill.Goals as goal

pub returns-clause-gives : goal.returns-clause-gives
unfolding held
returns-clause-gives g c = search (rules, length-take, drop-append-le)

pub returns-in_err-n-clause-none : goal.returns-in_err-n-clause-none
unfolding held
returns-in_err-n-clause-none g c = search rules
