-- The packets that are sent (module `sender`).
use Rattle.std.specs.Prelude.{ℕ, suc, ◌+◌, ◌*◌, ◌/◌, ◌%◌, ◌^◌, Bool, false, List, [], ◌∷◌, ◌++◌}
use Rattle.std.specs.Prelude.{take, drop, Option, Some, None}
use Rattle.byteorder.specs.Endian.{big_bytes}
use Rattle.satop_packet.specs.Satop.{plain_packet}
use Rattle.gw_satop.specs.declared.sender.SenderSettings.{SenderSettings}

-- a fixed RTP header without a marker (RFC 3550, 5.1), if packets have one of this payload type
abbrev pub header : Option ℕ → ℕ → ℕ → ℕ → List ℕ
header None sequence timestamp ssrc = []
header (Some payload_type) sequence timestamp ssrc =
    128 ∷ payload_type ∷ big_bytes 2 sequence ++ big_bytes 4 timestamp ++ big_bytes 4 ssrc

-- the number of the packet with this place, and the time of its first octet: 8000 a second, one a frame
abbrev pub sequence_at : SenderSettings → ℕ → ℕ
sequence_at s k = (s.sequence + k) % 2 ^ 16

abbrev pub timestamp_at : SenderSettings → ℕ → ℕ
timestamp_at s k = (s.timestamp + k * (s.size / 32)) % 2 ^ 32

-- the datagram of the packet with this place: bit L is clear, and bit R says that packets are missing
-- (RFC 4553, 4.3)
unfoldable pub packet_at : SenderSettings → ℕ → Bool → List ℕ → List ℕ
packet_at s k missing octets = plain_packet (header s.rtp (sequence_at s k) (timestamp_at s k) s.ssrc)
    (record { lost = false; remote = missing; sequence = sequence_at s k }) octets

-- the datagrams of packets from a place on: each has the next octets
unfoldable pub packets_from : SenderSettings → ℕ → List Bool → List ℕ → List (List ℕ)
packets_from s k [] octets = []
packets_from s k (missing ∷ flags) octets =
    packet_at s k missing (take s.size octets) ∷ packets_from s (suc k) flags (drop s.size octets)

-- the datagrams of octets, by the flag of each packet
abbrev pub packets_of : SenderSettings → List Bool → List ℕ → List (List ℕ)
packets_of s flags octets = packets_from s 0 flags octets
