use Rattle.g704_crc4.proofs.Common.{◌≡◌, take, drop, counts_after, counts_of, ChecksAfter}
use Rattle.g704_crc4.proofs.checking.check.Given as goal

-- The checker has the history of the octets so far, and the others are to be counted.
abbrev pub invariant-loop-octet : goal.invariant-loop-octet
invariant-loop-octet l = record {
  stands : ChecksAfter l.checker (take l.octet-index l.octets);
  counted : counts_after l.counts (take l.octet-index l.octets) (drop l.octet-index l.octets) ≡ counts_of l.octets;
}
