-- What the header of a datagram says (module `header`).
use Rattle.std.specs.Prelude.{ℕ, List, length, if◌then◌else◌, nat_lt}
use Rattle.rtp_packet.specs.Read.{header_of}
use Rattle.rtp_packet.specs.declared.Header.{Header}

-- the header of an RTP datagram (RFC 3550, 5.1); zeros if it is too short for one
abbrev pub rtp_header : List ℕ → Header
rtp_header octets = if nat_lt (length octets) 12
    then record { payload_type = 0; sequence = 0; timestamp = 0; ssrc = 0 }
    else header_of octets
