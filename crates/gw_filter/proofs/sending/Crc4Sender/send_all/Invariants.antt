use Rattle.std.proofs.Common.{◌-◌, length}
use Rattle.gw_filter.proofs.Sends.{IsSentTo}
use Rattle.gw_filter.proofs.sending.Crc4Sender.send_all.Given as goal

-- The octets before this place are sent.
abbrev pub invariant-loop-at : goal.invariant-loop-at
invariant-loop-at l = IsSentTo l.initial.self l.self l.fn.octets l.octets l.at

abbrev pub decreases-loop-at : goal.decreases-loop-at
decreases-loop-at l = length l.octets - l.at
