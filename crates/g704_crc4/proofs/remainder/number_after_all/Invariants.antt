use Rattle.g704_crc4.proofs.Common.{◌≡◌, take, crc_number, Remainder}
use Rattle.g704_crc4.specs.Remainder.{after_all}
use Rattle.g704_crc4.proofs.remainder.number_after_all.Given as goal

-- The remainder after the octets so far.
abbrev pub invariant-loop-octet : goal.invariant-loop-octet
invariant-loop-octet l = (remainder : Remainder) → l.left ≡ crc_number remainder
    → l.now ≡ crc_number (after_all remainder (take l.octet-index l.octets))
