use Rattle.gw_speech.proofs.Common.{header_at, rules}
use Rattle.gw_speech.proofs.encode.first_packet.Goals as goal

pub returns : goal.returns
unfolding header_at
returns c = search rules
