use Rattle.g704_bits.specs.Standing.{StandsAfter}
use Rattle.gw_filter.specs.Align.{align_reply}
use Rattle.gw_filter.proofs.InPlace.{IsFilteredTo}
use Rattle.gw_filter.proofs.filters.align_all.Given as goal

-- The octets up to the index are replaced.
abbrev pub invariant-loop-octet : goal.invariant-loop-octet
invariant-loop-octet l =
    IsFilteredTo StandsAfter align_reply l.initial.aligner l.aligner l.fn.octets l.octets l.octet-index
