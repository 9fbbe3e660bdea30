use Rattle.g704_crc4.proofs.Sent.{kept_others}
use Rattle.g704_crc4.proofs.laws.others_are_kept.Goals as goal

pub returns : goal.returns
returns c = kept_others
