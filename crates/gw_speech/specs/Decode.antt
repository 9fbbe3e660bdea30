-- The speech in the records of datagrams.
use Rattle.std.specs.Prelude.{◌≡◌, ◌==◌, ◌+◌, ◌++◌, if◌then◌else◌, Bool, true, false, ℕ, List, [], length}
use Rattle.std.specs.Prelude.{drop, count_by, Option, Some, None, unwrap_or, is_none, Result, Ok, Err}
use Rattle.std.specs.List.{flat_map}
use Rattle.std.specs.Io.KnownBytes.{Appends}
use Rattle.g726_codec.specs.Kinds.{dec, CodecState, codec_after}
use Rattle.rtp_packet.specs.declared.RtpFault.{RtpFault}
use Rattle.rtp_packet.specs.Rtp.{Parts}
use Rattle.rtp_packet.specs.Read.{read_of}
use Rattle.rtp_pack.specs.Payload.{words_of}
use Rattle.gw_speech.specs.declared.stream_spec.StreamSpec.{StreamSpec}
use Rattle.gw_records.specs.declared.outcome.Totals.{Totals}
use Rattle.gw_records.specs.declared.outcome.RunFault.{RunFault}
use Rattle.gw_records.specs.declared.outcome.RunFault.TheVariants as faults
use Rattle.gw_records.specs.declared.records.AcceptedKinds.{AcceptedKinds}
use Rattle.gw_records.specs.Records.{Record}
use Rattle.gw_records.specs.Streams.{SourceState, SinkState, AppendsPrefix, at_most}
use Rattle.gw_records.specs.Outcome.{nothing_counted, EndsAll, EndsUntil, OrNoMemory}
use Rattle.gw_speech.specs.Encode.{word_bits}

-- a codec of the stream that has decoded these words since its reset and encoded nothing
abbrev pub HasDecoded : StreamSpec → CodecState → List ℕ → Type 0
HasDecoded s codec words = codec ≡ codec_after s.law s.codec [] words

-- the words of a datagram, if its payload type is that of the stream
abbrev pub words_if : StreamSpec → Result Parts RtpFault → Option (List ℕ)
words_if s (Ok parts) =
    if parts.header.payload_type == s.payload_type then Some (words_of (word_bits s) parts.payload) else None
words_if s (Err fault) = None

-- the code words of a datagram of the stream; None if it is refused or of another type
unfoldable pub datagram_words : StreamSpec → List ℕ → Option (List ℕ)
datagram_words s octets = words_if s (read_of octets)

-- the code words in a record of a datagram of the stream
abbrev pub record_words : StreamSpec → Record → Option (List ℕ)
record_words s (Record.Datagram circuit octets) = datagram_words s octets
record_words s _ = None

-- the code words in records, one after another
abbrev pub words_in : StreamSpec → List Record → List ℕ
words_in s records = flat_map (λ r. unwrap_or (record_words s r) []) records

-- the speech of code words by one decoder from reset: an octet for each word
abbrev pub speech_of : StreamSpec → List ℕ → List ℕ
speech_of s words = dec s.law s.codec words

-- the speech of words by a decoder after those before them
unfoldable pub speech_behind : StreamSpec → List ℕ → List ℕ → List ℕ
speech_behind s before words = drop (length before) (speech_of s (before ++ words))

-- the speech in records
abbrev pub speech_in : StreamSpec → List Record → List ℕ
speech_in s records = speech_of s (words_in s records)

-- only datagrams are read
abbrev pub only_datagrams : AcceptedKinds
only_datagrams = record { trunk = false; datagrams = true; commands = false; codecs = false }

-- the numbers of records, and of those with a skipped datagram
abbrev pub decode_totals : StreamSpec → List Record → Totals
decode_totals s records = record nothing_counted {
  records = at_most (length records);
  dropped = at_most (count_by (λ r. is_none (record_words s r)) records);
}

-- the totals after one more record, whose datagram is decoded or dropped
abbrev pub count_record : Totals → Bool → Totals
count_record t is_decoded = record t {
  records = at_most (t.records + 1);
  dropped = if is_decoded then t.dropped else at_most (t.dropped + 1);
}

-- the sink took the speech of records, and the totals count them
abbrev pub DecodesThrough : StreamSpec → SinkState → SinkState → Totals → List Record → Type 0
DecodesThrough s sink sink' totals records =
    Appends sink.taken sink'.taken (speech_in s records) × (totals ≡ decode_totals s records)

-- decoding to the end of the source
abbrev pub DecodesAll : StreamSpec → SourceState → SourceState → SinkState → SinkState → Totals → Type 0
DecodesAll s source source' sink sink' =
    EndsAll only_datagrams source source' sink sink' (DecodesThrough s sink sink')

-- .. or before it, if a write failed with a prefix of the speech of whole records. No record that is read
-- here has a command.
abbrev pub DecodesUntil : StreamSpec → SourceState → SourceState → SinkState → SinkState → RunFault → Type 0
DecodesUntil s source source' sink sink' faults.BadCommand = ⊥
DecodesUntil s source source' sink sink' fault =
    OrNoMemory ((source' ≡ source) × (sink' ≡ sink))
    (EndsUntil only_datagrams source source' sink sink' (DecodesThrough s sink sink')
    (λ records. AppendsPrefix sink.taken sink'.taken (speech_in s records))) fault
