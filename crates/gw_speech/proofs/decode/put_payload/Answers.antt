use Rattle.gw_speech.proofs.Common.{rules}
use Rattle.gw_speech.proofs.Speech.{speech_of_octets}
use Rattle.gw_speech.proofs.decode.put_payload.Goals as goal

pub returns-then-eq-clause-puts : goal.returns-then-eq-clause-puts
returns-then-eq-clause-puts g c = search (rules, speech_of_octets)
