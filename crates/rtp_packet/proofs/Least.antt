-- The first test that is met is the one of the fault with the least number.
use Rattle.std.proofs.Common.{rules, ◌≡◌, ◌≤◌, Bool, true, false, cond, Some, None, arith}
use Rattle.std.specs.Prelude.{MatchOption}
use Rattle.rtp_packet.specs.declared.RtpFault.{RtpFault}
use Rattle.rtp_packet.specs.declared.RtpFault.TheVariants.{Short, Version, ShortSources, ShortExtension, BadPadding}
use Rattle.rtp_packet.specs.Fault.{fault_number}

-- the numbers begin with 1
from-1 : (f : RtpFault) → 1 ≤ fault_number f
from-1 Short = omega arith
from-1 _ = omega arith

-- if the first fault does not hold, one that does has a number from 2 on
from-2 : (holds : RtpFault → Bool) → holds Short ≡ false → (f : RtpFault) → holds f ≡ true → 2 ≤ fault_number f
from-2 holds a Short h = absurd (cc)
from-2 holds a _ h = omega arith

-- if the first two do not hold, from 3 on
from-3 : (holds : RtpFault → Bool) → holds Short ≡ false → holds Version ≡ false → (f : RtpFault) → holds f ≡ true
    → 3 ≤ fault_number f
from-3 holds a b h3 h = search rules

-- if the first three do not hold, from 4 on
from-4 : (holds : RtpFault → Bool) → holds Short ≡ false → holds Version ≡ false → holds ShortSources ≡ false
    → (f : RtpFault) → holds f ≡ true → 4 ≤ fault_number f
from-4 holds a b c h4 h = search rules

-- if the first four do not hold, 5
from-5 : (holds : RtpFault → Bool) → holds Short ≡ false → holds Version ≡ false → holds ShortSources ≡ false
    → holds ShortExtension ≡ false → (f : RtpFault) → holds f ≡ true → 5 ≤ fault_number f
from-5 holds a b c d BadPadding h = omega arith
from-5 holds a b c d _ h = absurd (cc)

-- if none of the five holds, none does
none-holds : (holds : RtpFault → Bool) → holds Short ≡ false → holds Version ≡ false → holds ShortSources ≡ false
    → holds ShortExtension ≡ false → holds BadPadding ≡ false → (f : RtpFault) → holds f ≡ false
none-holds holds a b c d e h6 = search rules

-- the first test that is met gives the least fault, and none is met if none holds
pub least : (holds : RtpFault → Bool) (a b c d e : Bool) → holds Short ≡ a → holds Version ≡ b → holds ShortSources ≡ c
    → holds ShortExtension ≡ d → holds BadPadding ≡ e
    → MatchOption (cond a (Some Short) (cond b (Some Version) (cond c (Some ShortSources)
    (cond d (Some ShortExtension) (cond e (Some BadPadding) None)))))
    ((f : RtpFault) → holds f ≡ false)
    (λ f. (holds f ≡ true) × ((other : RtpFault) → holds other ≡ true → fault_number f ≤ fault_number other))
least holds true b c d e pa pb pc pd pe = (pa, λ other h. from-1 other)
least holds false true c d e pa pb pc pd pe = (pb, from-2 holds pa)
least holds false false true d e pa pb pc pd pe = (pc, from-3 holds pa pb)
least holds false false false true e pa pb pc pd pe = (pd, from-4 holds pa pb pc)
least holds false false false false true pa pb pc pd pe = (pe, from-5 holds pa pb pc pd)
least holds false false false false false pa pb pc pd pe = none-holds holds pa pb pc pd pe
