-- Speech as the datagrams of one stream (RFC 3551, section 4.5): packets of equal length, one datagram each.
use Rattle.std.specs.Prelude.{◌≡◌, ◌+◌, ◌-◌, ◌*◌, ◌/◌, ◌%◌, ◌^◌, ◌++◌, ℕ, zero, suc, List, [], length, take}
use Rattle.std.specs.Prelude.{drop, replicate}
use Rattle.std.specs.Io.KnownBytes.{Appends, IsAtEnd}
use Rattle.e1_g711.specs.Law.{idle_code}
use Rattle.g726_codec.specs.Kinds.{bits_of, enc, CodecState, codec_after}
use Rattle.rtp_packet.specs.declared.Header.{Header}
use Rattle.rtp_packet.specs.Rtp.{plain_datagram}
use Rattle.rtp_pack.specs.Payload.{octets_of}
use Rattle.gw_speech.specs.declared.stream_spec.StreamSpec.{StreamSpec}
use Rattle.gw_speech.specs.declared.encode.NextPacket.{NextPacket}
use Rattle.gw_records.specs.declared.outcome.Totals.{Totals}
use Rattle.gw_records.specs.declared.outcome.RunFault.{RunFault}
use Rattle.gw_records.specs.declared.outcome.RunFault.TheVariants.{Read, Write}
use Rattle.gw_records.specs.Streams.{SourceState, SinkState, GivesOctets, GivesUp, FailsAfterPrefix, at_most}
use Rattle.gw_records.specs.Records.{record_of}
use Rattle.gw_records.specs.Outcome.{nothing_counted}

-- a codec of the stream that has encoded these octets since its reset and decoded nothing
abbrev pub HasEncoded : StreamSpec → CodecState → List ℕ → Type 0
HasEncoded s codec octets = codec ≡ codec_after s.law s.codec octets []

-- the samples of a packet: eight in a millisecond
abbrev pub packet_len : StreamSpec → ℕ
packet_len s = 8 * s.ptime

-- the bits of a code word
abbrev pub word_bits : StreamSpec → ℕ
word_bits s = bits_of s.codec

-- the code words of speech by an encoder from reset: a word for each octet
abbrev pub words_for : StreamSpec → List ℕ → List ℕ
words_for s octets = enc s.law s.codec octets

-- the words of a packet
abbrev pub packet_at : StreamSpec → List ℕ → ℕ → List ℕ
packet_at s words k = take (packet_len s) (drop (packet_len s * k) words)

-- The header of packet k (RFC 3550, section 5.1): the sequence number rises by one for each packet, the
-- timestamp by its samples.
unfoldable pub header_at : StreamSpec → ℕ → Header
header_at s k = record {
  payload_type = s.payload_type;
  sequence = (s.sequence + k) % 2 ^ 16;
  timestamp = (s.timestamp + packet_len s * k) % 2 ^ 32;
  ssrc = s.ssrc;
}

-- the record of the datagram of circuit 1 with this header and these words
unfoldable pub packet_record : StreamSpec → Header → List ℕ → List ℕ
packet_record s header words = record_of 0x44 1 (plain_datagram header (octets_of (word_bits s) words))

-- the records of the first count packets of these words, from packet k of the stream
abbrev pub records_from : StreamSpec → ℕ → List ℕ → ℕ → List ℕ
records_from s k words zero = []
records_from s k words (suc count) =
    records_from s k words count ++ packet_record s (header_at s (k + count)) (packet_at s words count)

-- the full packets
abbrev pub full_packets : StreamSpec → List ℕ → ℕ
full_packets s octets = length octets / packet_len s

-- the octets, with idle ones that fill the last packet
abbrev pub filled : StreamSpec → List ℕ → List ℕ
filled s octets =
    octets ++ replicate ((packet_len s - length octets % packet_len s) % packet_len s) (idle_code s.law)

-- the number of packets of the octets
abbrev pub packets : StreamSpec → List ℕ → ℕ
packets s octets = full_packets s (filled s octets)

-- the records of the full packets alone
unfoldable pub full_records_of : StreamSpec → List ℕ → List ℕ
full_records_of s octets = records_from s 0 (words_for s octets) (full_packets s octets)

-- the records of all the octets
unfoldable pub records_of : StreamSpec → List ℕ → List ℕ
records_of s octets = full_records_of s (filled s octets)

-- the totals of this many packets
abbrev pub encode_totals : ℕ → Totals
encode_totals count = record nothing_counted { datagrams = at_most count }

-- the source gave octets to its end, and the sink took the records of all of them
pub record Encodes (s : StreamSpec) (source source' : SourceState) (sink sink' : SinkState)
    (totals : Totals) : Type 0 where
  pub octets : List ℕ
  pub gives : GivesOctets source source' octets
  pub ended : IsAtEnd source'.to_come
  pub took : Appends sink.taken sink'.taken (records_of s octets)
  pub totals_are : totals ≡ encode_totals (packets s octets)
  pub no_read : source'.failures ≡ source.failures
  pub no_write : sink'.failures ≡ sink.failures

-- a read failed, or there were 2 ^ 62 of them, each of which gave an octet; the full packets were written
pub record EncodesUntilRead (s : StreamSpec) (source source' : SourceState) (sink sink' : SinkState)
    : Type 0 where
  pub octets : List ℕ
  pub gives : GivesOctets source source' octets
  pub took : Appends sink.taken sink'.taken (full_records_of s octets)
  pub cause : GivesUp source source' octets
  pub no_write : sink'.failures ≡ sink.failures

-- a write failed; a prefix of the records was written
pub record EncodesUntilWrite (s : StreamSpec) (source source' : SourceState) (sink sink' : SinkState)
    : Type 0 where
  pub octets : List ℕ
  pub gives : GivesOctets source source' octets
  pub breaks : FailsAfterPrefix sink sink' (records_of s octets)
  pub no_read : source'.failures ≡ source.failures

-- the end of encoding before that of the source: by a read or a write, and by no other fault
abbrev pub EncodesUntil : StreamSpec → SourceState → SourceState → SinkState → SinkState → RunFault → Type 0
EncodesUntil s source source' sink sink' Read = EncodesUntilRead s source source' sink sink'
EncodesUntil s source source' sink sink' Write = EncodesUntilWrite s source source' sink sink'
EncodesUntil s source source' sink sink' _ = ⊥

-- the header of the next packet
abbrev pub header_with : StreamSpec → NextPacket → Header
header_with s progress =
    record {
      payload_type = s.payload_type;
      sequence = progress.sequence;
      timestamp = progress.timestamp;
      ssrc = s.ssrc;
    }

-- the next packet is packet k of the stream
pub record IsPacket (s : StreamSpec) (progress : NextPacket) (k : ℕ) : Type 0 where
  pub header : header_with s progress ≡ header_at s k
  pub counted : progress.datagrams ≡ at_most k

-- A codec has encoded the given octets since its reset: the words of the first count packets were sent, and
-- these are left.
pub record IsEncoding (s : StreamSpec) (codec : CodecState) (given sent : List ℕ) (count : ℕ) (held : List ℕ)
    : Type 0 where
  pub stands : HasEncoded s codec given
  pub words : words_for s given ≡ sent ++ held
  pub whole : length sent ≡ packet_len s * count
