use Rattle.gw_speech.proofs.Common.{err_from_is_err_and, FailsAfterPrefix-more, rules}
use Rattle.gw_speech.proofs.decode.put_octet.Goals as goal

pub returns-in_err-flush : goal.returns-in_err-flush
returns-in_err-flush g c = search (rules, err_from_is_err_and, FailsAfterPrefix-more)
