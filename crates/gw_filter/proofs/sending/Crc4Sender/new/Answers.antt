use Rattle.std.proofs.Common.{refl}
use Rattle.g704_framing.specs.Replies.{replies_after}
use Rattle.gw_filter.specs.Crc4.{with_e_bits}
use Rattle.gw_filter.proofs.sending.Crc4Sender.new.Goals as goal

pub returns : goal.returns
unfolding with_e_bits replies_after
returns c = record { bits = c.new.ensures; multiframer = c.new-2.ensures; sent_is = refl }
