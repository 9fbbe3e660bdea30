-- The packets of an emulated circuit that arrive (RFC 4553).
use Rattle.std.specs.Prelude.{ℕ, Bool, ◌==◌, ◌&&◌, ◌||◌, if◌then◌else◌, List, [], ◌∷◌, ◌++◌}
use Rattle.std.specs.Prelude.{length, replicate, Option, Some, None, Result, Ok, Err}
use Rattle.satop_packet.specs.declared.Control.{Control}
use Rattle.satop_packet.specs.declared.SatopFault.{SatopFault}
use Rattle.satop_packet.specs.declared.SatopFault.TheVariants.{Short, NoRtp, NoControl, OtherLength}
use Rattle.satop_packet.specs.Satop.{Content}
use Rattle.satop_packet.specs.Read.{reading_of}
use Rattle.gw_satop.specs.declared.packet.PacketFault.{PacketFault}
use Rattle.gw_satop.specs.declared.packet.PacketFault.TheVariants as malformed

-- the fault of a datagram that is no packet
abbrev pub malformed_by : SatopFault → PacketFault
malformed_by Short = malformed.Short
malformed_by NoRtp = malformed.NoRtp
malformed_by NoControl = malformed.NoControl
malformed_by OtherLength = malformed.OtherLength

-- the number of a fault, in order of precedence
abbrev pub malformed_number : PacketFault → ℕ
malformed_number malformed.Short = 1
malformed_number malformed.NoRtp = 2
malformed_number malformed.NoControl = 3
malformed_number malformed.OtherLength = 4
malformed_number malformed.OtherSize = 5

-- a packet has as many octets as those of the circuit, or bit L and none (RFC 4553, 4.3)
abbrev pub fits : ℕ → Content → Bool
fits size p = (length p.payload == size) || (p.control.lost && (length p.payload == 0))

-- these parts, if they are of a packet of the circuit
abbrev pub fitting : ℕ → Result Content SatopFault → Result Content PacketFault
fitting size (Err f) = Err (malformed_by f)
fitting size (Ok p) = if fits size p then Ok p else Err malformed.OtherSize

-- the packet of a datagram, behind an RTP header if there is to be one, or its first fault
abbrev pub packet_in : Bool → ℕ → List ℕ → Result Content PacketFault
packet_in rtp size datagram = fitting size (reading_of rtp datagram)

-- The octets that are played for a packet: those that it has, or ones if bit L says that they are invalid
-- (RFC 4553, 4.3 and 6.2.2).
abbrev pub octets_to_play : ℕ → Content → List ℕ
octets_to_play size p = if p.control.lost then replicate size 255 else p.payload

-- the numbers and octets of a packet, or nothing
abbrev pub arrival_of : ℕ → Result Content PacketFault → List (ℕ × List ℕ)
arrival_of size (Ok p) = (p.control.sequence, octets_to_play size p) ∷ []
arrival_of size (Err f) = []

-- the numbers and octets of the packets in these datagrams, in order
abbrev pub arrivals_in : Bool → ℕ → List (List ℕ) → List (ℕ × List ℕ)
arrivals_in rtp size [] = []
arrivals_in rtp size (datagram ∷ datagrams) =
    arrival_of size (packet_in rtp size datagram) ++ arrivals_in rtp size datagrams

-- the control word of a packet
abbrev pub control_in : Result Content PacketFault → Option Control
control_in (Ok p) = Some p.control
control_in (Err f) = None
