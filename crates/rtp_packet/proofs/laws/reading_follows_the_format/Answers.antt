use Rattle.rtp_packet.proofs.Callers.{reads_parts, reads_fault}
use Rattle.rtp_packet.proofs.laws.reading_follows_the_format.Goals as goal

pub returns-clause-parts : goal.returns-clause-parts
returns-clause-parts c = reads_parts

pub returns-clause-fault : goal.returns-clause-fault
returns-clause-fault c = reads_fault
