-- The reading of octets: the parts of a datagram, or the first fault (RFC 3550, sections 5.1 and 5.3.1).
use Rattle.std.specs.Prelude.{◌+◌, ◌%◌, ◌-◌, ℕ, Bool, nat_le, if◌then◌else◌, List, take, drop, length}
use Rattle.std.specs.Prelude.{slice_index, Option, None, Some, Result, Ok, Err}
use Rattle.byteorder.specs.Endian.{big_number}
use Rattle.rtp_packet.specs.declared.Header.{Header}
use Rattle.rtp_packet.specs.declared.RtpFault.{RtpFault}
use Rattle.rtp_packet.specs.Rtp.{Extension, Parts}
use Rattle.rtp_packet.specs.Fault.{fault, says_padded, says_extended, sources_end, extension_end, last_octet}

-- the fields of a header, in the first twelve octets (RFC 3550, 5.1)
unfoldable pub header_of : List ℕ → Header
header_of octets = record {
  payload_type = slice_index octets 1 % 128;
  sequence = big_number 2 (take 2 (drop 2 octets));
  timestamp = big_number 4 (take 4 (drop 4 octets));
  ssrc = big_number 4 (take 4 (drop 8 octets));
}

-- the marker, the top bit of the second octet (RFC 3550, 5.1)
unfoldable pub marker_of : List ℕ → Bool
marker_of octets = nat_le 128 (slice_index octets 1)

-- the octets from one place up to another
abbrev pub between : ℕ → ℕ → List ℕ → List ℕ
between low high octets = take (high - low) (drop low octets)

-- the extension, if the X bit is set: its 16-bit field and its words (RFC 3550, 5.3.1)
unfoldable pub extension_of : List ℕ → Option Extension
extension_of octets =
    if says_extended octets
    then Some (record {
      profile = big_number 2 (take 2 (drop (sources_end octets) octets));
      octets = between (sources_end octets + 4) (extension_end octets) octets;
    })
    else None

-- the number of octets of padding, the value of the last octet if the P bit is set (RFC 3550, 5.1)
unfoldable pub padding_len : List ℕ → ℕ
padding_len octets = if says_padded octets then last_octet octets else 0

-- the parts of octets without fault, by their places
unfoldable pub parts_of : List ℕ → Parts
parts_of octets = record {
  header = header_of octets;
  marker = marker_of octets;
  sources = between 12 (sources_end octets) octets;
  extension = extension_of octets;
  payload = between (extension_end octets) (length octets - padding_len octets) octets;
}

-- these parts, unless there is a fault
abbrev pub unless_fault : Option RtpFault → Parts → Result Parts RtpFault
unless_fault None parts = Ok parts
unless_fault (Some f) parts = Err f

-- the reading of octets: their parts, or the first fault
unfoldable pub read_of : List ℕ → Result Parts RtpFault
read_of octets = unless_fault (fault octets) (parts_of octets)
