-- What a layer above may cite of packets: the laws, as lemmas.
use Rattle.std.proofs.Common.{◌≡◌, ℕ, Bool, List, ◌++◌, length, ◌+◌, Option, Some, None, refl, sym, ◌∙◌, arith}
use Rattle.std.proofs.Common.{◌<◌, inl, inr}
use Rattle.std.specs.Prelude.{Result, Ok, Err, IfOk, IsOkAnd, MatchResult}
use Rattle.std.proofs.lemmas.List.{length-append}
use Rattle.std.proofs.lemmas.Bool.{cases_lt, lt-ltb, le-ltb}
use Rattle.satop_packet.specs.declared.SatopFault.{SatopFault}
use Rattle.satop_packet.specs.Satop.{Content, control_word, length_said, plain_packet}
use Rattle.satop_packet.specs.Fault.{fault, has_fault, is_short, is_no_rtp, is_no_control, is_other_length}
use Rattle.satop_packet.specs.Read.{content_of, unless_fault, reading_of}
use Rattle.satop_packet.specs.Laws.{AreOctets, IsPacketOf, FaultlessIsPacket, PacketIsFaultless, PartsAreUnique}
use Rattle.satop_packet.specs.Laws.{LeastFaultIsTold, PlainIsPacket, PlainIsRead}
use Rattle.satop_packet.proofs.Joins.{is_told, joins}
use Rattle.satop_packet.proofs.Least.{least}

-- octets without fault are the join of some parts
pub faultless_is_packet : FaultlessIsPacket
faultless_is_packet rtp octets each none = (content_of rtp octets, joins rtp octets each none)

-- the join of some parts has no fault
pub packet_is_faultless : PacketIsFaultless
packet_is_faultless rtp octets parts (reserved, fragment, len, d) =
    (is_told rtp octets parts reserved fragment len d).faultless

-- octets are the join of at most one record of parts
pub parts_are_unique : PartsAreUnique
parts_are_unique rtp octets parts others (reserved, fragment, len, d) (bits, more, number, e) =
    (is_told rtp octets parts reserved fragment len d).parts ∙ sym (is_told rtp octets others bits more number e).parts

-- the fault returned holds, and has the least number of those that hold
pub least_fault_is_told : LeastFaultIsTold
least_fault_is_told rtp o =
    least (has_fault rtp o) (is_short rtp o) (is_no_rtp rtp o) (is_no_control rtp o) (is_other_length rtp o)
    refl refl refl refl

-- the join of some parts is read as these parts
pub reading_of-packet : (rtp : Bool) (octets : List ℕ) (parts : Content) → IsPacketOf rtp parts octets
    → reading_of rtp octets ≡ Ok parts
unfolding reading_of
reading_of-packet rtp octets parts (reserved, fragment, len, d) =
    let t = is_told rtp octets parts reserved fragment len d in
    rw (t.faultless, t.parts) refl

-- parts are read if there is no fault, and are those at their places
unless_fault-ok : (f : Option SatopFault) (at parts : Content) → unless_fault f at ≡ Ok parts
    → (f ≡ None) × (parts ≡ at)
unless_fault-ok None at parts e = (refl, cc)
unless_fault-ok (Some f) at parts e = absurd (cc)

-- a fault is returned if there is one
unless_fault-err : (f : Option SatopFault) (at : Content) (g : SatopFault) → unless_fault f at ≡ Err g → f ≡ Some g
unless_fault-err None at g e = absurd (cc)
unless_fault-err (Some f) at g e = cc

-- octets that are read are the join of what they are read as
reading_of-ok : (rtp : Bool) (octets : List ℕ) (parts : Content) → AreOctets octets → reading_of rtp octets ≡ Ok parts
    → IsPacketOf rtp parts octets
unfolding reading_of
reading_of-ok rtp octets parts each e =
    let t = unless_fault-ok (fault rtp octets) (content_of rtp octets) parts e in
    rw (t.1) (joins rtp octets each t.0)

-- LEN, as it is written, fits
said-fits : (size : ℕ) → (length_said size < 64) × ((length_said size ≡ 0 → ⊥) → length_said size ≡ size)
said-fits size = elim (cases_lt size 64) [
  | inl lt ↦ rw (lt-ltb size 64 lt) (lt, λ ne. refl)
  | inr ge ↦ rw (le-ltb size 64 ge) (omega arith, λ ne. absurd (ne refl))
]

-- what is written is a packet
pub plain_is_packet : PlainIsPacket
unfolding plain_packet
plain_is_packet rtp header control payload is there small =
    let size = length header + 4 + length payload in
    let s = said-fits size in
    let word = control_word control 0 0 (length_said size) in
    let l : length (header ++ (word ++ payload)) ≡ size
    = length-append header (word ++ payload) ∙ (omega arith) in
    record {
      joined = refl;
      header = is;
      there = there;
      sequence = small;
      reserved_fits = omega arith;
      fragment_fits = omega arith;
      len_fits = s.0;
      counted = λ ne. s.1 ne ∙ sym l;
    }

-- and is read as what was written
pub plain_is_read : PlainIsRead
plain_is_read rtp header control payload is there small =
    reading_of-packet rtp (plain_packet header control payload)
    (record { rtp = header; control = control; payload = payload })
    (0, 0, length_said (length header + 4 + length payload), plain_is_packet rtp header control payload is there small)

-- what was read is the join of its parts
pub read-ok : (rtp : Bool) (octets : List ℕ) (r : Result Content SatopFault) → AreOctets octets
    → r ≡ reading_of rtp octets → IfOk r (λ parts. IsPacketOf rtp parts octets)
read-ok rtp octets (Ok parts) each e = reading_of-ok rtp octets parts each (sym e)
read-ok rtp octets (Err f) each e = tt

-- a join of parts was read as these
pub read-exact : (rtp : Bool) (octets : List ℕ) (r : Result Content SatopFault) → r ≡ reading_of rtp octets
    → (parts : Content) → IsPacketOf rtp parts octets → IsOkAnd r (λ view. view ≡ parts)
read-exact rtp octets r e parts d = rw (e ∙ reading_of-packet rtp octets parts d) refl

-- what was read has no fault, and what was refused has the fault returned
pub read-fault : (rtp : Bool) (octets : List ℕ) (r : Result Content SatopFault) → r ≡ reading_of rtp octets
    → MatchResult r (λ _. fault rtp octets ≡ None) (λ f. fault rtp octets ≡ Some f)
unfolding reading_of
read-fault rtp octets (Ok parts) e = (unless_fault-ok (fault rtp octets) (content_of rtp octets) parts (sym e)).0
read-fault rtp octets (Err f) e = unless_fault-err (fault rtp octets) (content_of rtp octets) f (sym e)
