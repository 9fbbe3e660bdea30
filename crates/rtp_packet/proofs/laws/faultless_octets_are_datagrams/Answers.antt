use Rattle.rtp_packet.proofs.Callers.{faultless_is_datagram, datagram_is_faultless}
use Rattle.rtp_packet.proofs.laws.faultless_octets_are_datagrams.Goals as goal

pub returns-clause-datagram : goal.returns-clause-datagram
returns-clause-datagram c = faultless_is_datagram

pub returns-clause-faultless : goal.returns-clause-faultless
returns-clause-faultless c = datagram_is_faultless
