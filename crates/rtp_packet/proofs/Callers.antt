-- What a layer above may cite of datagrams: the laws, as lemmas.
use Rattle.std.proofs.Common.{◌≡◌, ℕ, List, Option, Some, None, refl, sym, ◌∙◌, arith}
use Rattle.std.specs.Prelude.{Result, Ok, Err, IfOk, IsOkAnd, MatchResult}
use Rattle.std.proofs.lemmas.List.{append-nil}
use Rattle.rtp_packet.specs.declared.RtpFault.{RtpFault}
use Rattle.rtp_packet.specs.Rtp.{Parts, IsDatagram, plain_datagram, plain_parts}
use Rattle.rtp_packet.specs.Fault.{fault, has_fault, is_short, is_other_version, is_short_of_sources}
use Rattle.rtp_packet.specs.Fault.{is_short_of_extension, is_badly_padded}
use Rattle.rtp_packet.specs.Read.{parts_of, unless_fault, read_of}
use Rattle.rtp_packet.specs.Laws.{IsDatagramOf, FaultlessIsDatagram, DatagramIsFaultless, PartsAreUnique}
use Rattle.rtp_packet.specs.Laws.{LeastFaultIsTold, ReadsParts, ReadsFault, PlainIsRead}
use Rattle.rtp_packet.proofs.Between.{AreOctets, all-octets}
use Rattle.rtp_packet.proofs.Joins.{is_told, joins}
use Rattle.rtp_packet.proofs.Least.{least}

-- octets without fault are the join of some parts
pub faultless_is_datagram : FaultlessIsDatagram
faultless_is_datagram octets each none = joins octets (all-octets octets each) none

-- the join of some parts has no fault
pub datagram_is_faultless : DatagramIsFaultless
datagram_is_faultless octets (parts, count, padding, d) = (is_told octets parts count padding d).faultless

-- octets are the join of at most one record of parts
pub parts_are_unique : PartsAreUnique
parts_are_unique octets parts others (count, padding, d) (number, filling, e) =
    (is_told octets parts count padding d).parts ∙ sym (is_told octets others number filling e).parts

-- the fault returned holds, and has the least number of those that hold
pub least_fault_is_told : LeastFaultIsTold
least_fault_is_told o =
    least (has_fault o) (is_short o) (is_other_version o) (is_short_of_sources o) (is_short_of_extension o)
    (is_badly_padded o) refl refl refl refl refl

-- the join of some parts is read as these parts
pub read_of-datagram : (octets : List ℕ) (parts : Parts) → IsDatagramOf parts octets → read_of octets ≡ Ok parts
unfolding read_of
read_of-datagram octets parts (count, padding, d) = grind (arith, is_told octets parts count padding d)

-- parts are read if there is no fault, and are those at their places
unless_fault-ok : (f : Option RtpFault) (at parts : Parts) → unless_fault f at ≡ Ok parts → (f ≡ None) × (parts ≡ at)
unless_fault-ok None at parts e = (refl, cc)
unless_fault-ok (Some f) at parts e = absurd (cc)

-- a fault is returned if there is one
unless_fault-err : (f : Option RtpFault) (at : Parts) (g : RtpFault) → unless_fault f at ≡ Err g → f ≡ Some g
unless_fault-err None at g e = absurd (cc)
unless_fault-err (Some f) at g e = cc

-- octets that are read are the join of what they are read as
pub read_of-ok : (octets : List ℕ) (parts : Parts) → AreOctets octets → read_of octets ≡ Ok parts
    → IsDatagramOf parts octets
unfolding read_of
read_of-ok octets parts each e =
    let t = unless_fault-ok (fault octets) (parts_of octets) parts e in
    let d = joins octets each t.0 in
    rw (t.1) (rw (← (is_told octets d.0 d.1 d.2 d.3).parts) (d.1, d.2, d.3))

-- octets are refused with their first fault
pub read_of-err : (octets : List ℕ) (f : RtpFault) → read_of octets ≡ Err f → fault octets ≡ Some f
unfolding read_of
read_of-err octets f e = unless_fault-err (fault octets) (parts_of octets) f e

-- octets with a fault are refused
pub read_of-fault : (octets : List ℕ) (f : RtpFault) → fault octets ≡ Some f → read_of octets ≡ Err f
unfolding read_of
read_of-fault octets f e = rw e refl

-- octets are read as the parts that they join, and as no others
pub reads_parts : ReadsParts
reads_parts octets parts each = (read_of-ok octets parts (all-octets octets each), read_of-datagram octets parts)

-- octets are refused with their first fault, and only with that
pub reads_fault : ReadsFault
reads_fault octets f = (read_of-err octets f, read_of-fault octets f)

-- a plain datagram is read as its header and its payload
pub plain_is_read : PlainIsRead
unfolding plain_datagram
plain_is_read header payload fits =
    read_of-datagram (plain_datagram header payload) (plain_parts header payload) (grind (arith, append-nil payload))

-- what was read is the join of its parts
pub read-ok : (octets : List ℕ) (r : Result Parts RtpFault) → AreOctets octets → r ≡ read_of octets
    → IfOk r (λ parts. IsDatagramOf parts octets)
read-ok octets (Ok parts) each e = read_of-ok octets parts each (sym e)
read-ok octets (Err f) each e = tt

-- a join of parts was read as these
pub read-exact : (octets : List ℕ) (r : Result Parts RtpFault) → r ≡ read_of octets
    → (parts : Parts) (count : ℕ) (padding : List ℕ) → IsDatagram octets parts count padding
    → IsOkAnd r (λ view. view ≡ parts)
read-exact octets r e parts count padding d = rw (e ∙ read_of-datagram octets parts (count, padding, d)) refl

-- what was read has no fault, and what was refused has the fault returned
pub read-fault : (octets : List ℕ) (r : Result Parts RtpFault) → r ≡ read_of octets
    → MatchResult r (λ _. fault octets ≡ None) (λ f. fault octets ≡ Some f)
unfolding read_of
read-fault octets (Ok parts) e = (unless_fault-ok (fault octets) (parts_of octets) parts (sym e)).0
read-fault octets (Err f) e = unless_fault-err (fault octets) (parts_of octets) f (sym e)
