use Rattle.g704_crc4.proofs.Common.{refl, times_after}
use Rattle.g704_crc4.proofs.counting.TrunkChecker.new.Goals as goal

pub returns : goal.returns
unfolding times_after
returns c = record { receives = c.new.ensures; receiver_counts = refl }
