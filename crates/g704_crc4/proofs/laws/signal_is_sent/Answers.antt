use Rattle.g704_crc4.proofs.CheckBits.{right_signal}
use Rattle.g704_crc4.proofs.laws.signal_is_sent.Goals as goal

pub returns : goal.returns
returns c = right_signal
