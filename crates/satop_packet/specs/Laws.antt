-- Properties of the definitions together: the join of parts, the first fault, and the reading of octets.
use Rattle.std.specs.Prelude.{◌≡◌, ◌+◌, ◌<◌, ◌≤◌, ◌^◌, ℕ, Bool, true, false, List, length, slice_index}
use Rattle.std.specs.Prelude.{None, Ok, MatchOption}
use Rattle.satop_packet.specs.declared.Control.{Control}
use Rattle.satop_packet.specs.declared.SatopFault.{SatopFault}
use Rattle.satop_packet.specs.Satop.{Content, IsRtp, IsPacket, rtp_len, length_said, plain_packet}
use Rattle.satop_packet.specs.Fault.{fault, has_fault, fault_number}
use Rattle.satop_packet.specs.Read.{reading_of}

-- octets are the join of these parts, with some RSV, FRG and LEN
abbrev pub IsPacketOf : Bool → Content → List ℕ → Type 0
IsPacketOf rtp parts octets = (reserved : ℕ) × (fragment : ℕ) × (len : ℕ)
    × IsPacket octets rtp parts reserved fragment len

-- each number is an octet
abbrev pub AreOctets : List ℕ → Type 0
AreOctets octets = (index : ℕ) → slice_index octets index < 256

-- octets without fault are the join of some parts
abbrev pub FaultlessIsPacket : Type 0
FaultlessIsPacket =
    (rtp : Bool) (octets : List ℕ) → AreOctets octets → fault rtp octets ≡ None
    → (parts : Content) × IsPacketOf rtp parts octets

-- the join of some parts has no fault
abbrev pub PacketIsFaultless : Type 0
PacketIsFaultless =
    (rtp : Bool) (octets : List ℕ) (parts : Content) → IsPacketOf rtp parts octets → fault rtp octets ≡ None

-- octets are the join of at most one record of parts
abbrev pub PartsAreUnique : Type 0
PartsAreUnique =
    (rtp : Bool) (octets : List ℕ) (parts others : Content) → IsPacketOf rtp parts octets
    → IsPacketOf rtp others octets → parts ≡ others

-- the fault returned holds and has the least number of those that hold; none is returned if none holds
abbrev pub LeastFaultIsTold : Type 0
LeastFaultIsTold =
    (rtp : Bool) (octets : List ℕ) → MatchOption (fault rtp octets)
    ((f : SatopFault) → has_fault rtp octets f ≡ false)
    (λ f. (has_fault rtp octets f ≡ true)
    × ((other : SatopFault) → has_fault rtp octets other ≡ true → fault_number f ≤ fault_number other))

-- what is written is a packet
abbrev pub PlainIsPacket : Type 0
PlainIsPacket =
    (rtp : Bool) (header : List ℕ) (control : Control) (payload : List ℕ) → IsRtp header
    → length header ≡ rtp_len rtp → control.sequence < 2 ^ 16
    → IsPacket (plain_packet header control payload) rtp
    (record { rtp = header; control = control; payload = payload }) 0 0
    (length_said (length header + 4 + length payload))

-- what is written is read again
abbrev pub PlainIsRead : Type 0
PlainIsRead =
    (rtp : Bool) (header : List ℕ) (control : Control) (payload : List ℕ) → IsRtp header
    → length header ≡ rtp_len rtp → control.sequence < 2 ^ 16
    → reading_of rtp (plain_packet header control payload)
    ≡ Ok (record { rtp = header; control = control; payload = payload })
