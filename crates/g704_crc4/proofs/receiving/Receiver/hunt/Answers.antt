use Rattle.g704_crc4.proofs.Common.{◌≡◌, ◌≤◌, ℕ, List, length, false≢true, IsStage, rules}
use Rattle.g704_crc4.specs.declared.receiving.MultiframeSync.{MultiframeSync}
use Rattle.g704_crc4.specs.declared.receiving.MultiframeSync.TheVariants as stages
use Rattle.g704_crc4.proofs.Searched.{lost-learned, short-learned}
use Rattle.g704_crc4.proofs.receiving.Receiver.hunt.Goals.{in-SubmultiframeCheck}
use Rattle.g704_crc4.proofs.receiving.Receiver.hunt.Goals as goal

-- Without multiframes the 8 ms are not over.
not_over : (stage : MultiframeSync) (searched part octets : List ℕ) → IsStage stage searched part octets
    → ((following : _) → stage ≡ stages.SubmultiframeCheck following → ⊥) → length octets ≤ 2112
not_over stage searched part octets s not = search rules

pub returns-then-lost-clause-reply : goal.returns-then-lost-clause-reply
returns-then-lost-clause-reply c part octets s = search (rules, in-SubmultiframeCheck, lost-learned, false≢true)

pub returns-else-lost-clause-reply : goal.returns-else-lost-clause-reply
returns-else-lost-clause-reply c part octets s =
    search (rules, in-SubmultiframeCheck, false≢true, short-learned, not_over)
