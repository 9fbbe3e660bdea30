use Rattle.gw_speech.proofs.Common.{TakesAllButWaiting-none, rules}
use Rattle.gw_speech.proofs.Speech.{speech_of_none}
use Rattle.gw_speech.proofs.decode.put_datagram.Goals as goal

pub returns-in-None-clause-puts : goal.returns-in-None-clause-puts
returns-in-None-clause-puts g c = search (rules, speech_of_none, TakesAllButWaiting-none)
