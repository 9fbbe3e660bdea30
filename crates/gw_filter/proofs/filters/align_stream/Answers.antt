use Rattle.std.proofs.Common.{refl}
use Rattle.g704_framing.specs.Replies.{replies_after}
use Rattle.gw_filter.proofs.filters.align_stream.Goals as goal

pub octets_through-requires-clause-begins : goal.octets_through-requires-clause-begins
unfolding replies_after
octets_through-requires-clause-begins g c = (c.new.ensures, refl)
