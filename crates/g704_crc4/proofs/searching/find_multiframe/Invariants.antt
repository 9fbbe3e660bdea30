use Rattle.g704_crc4.proofs.Common.{◌≡◌, ◌*◌, ◌<◌, ℕ, false, begins_multiframe}
use Rattle.g704_crc4.proofs.searching.find_multiframe.Given as goal

-- None begins before.
abbrev pub invariant-loop-number : goal.invariant-loop-number
invariant-loop-number l = (earlier : ℕ) → earlier < l.number → begins_multiframe l.octets (2 * earlier) ≡ false
