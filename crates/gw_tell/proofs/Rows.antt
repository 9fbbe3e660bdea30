-- Worked rows of what is counted of a stream (RFC 3550, A.1, A.3 and A.8), by hand.
use Rattle.std.proofs.Common.{◌≡◌, ◌*◌, ℕ, List, [], ◌∷◌, Some, None, Option, map, refl, true, false}
use Rattle.gw_tell.specs.declared.counts.StreamCounts.{StreamCounts}
use Rattle.rtp_packet.specs.declared.Header.{Header}
use Rattle.gw_tell.specs.Headers.{rtp_header}
use Rattle.rtp_packet.specs.Read.{header_of}
use Rattle.gw_tell.specs.Counts.{apart, jitter_after, lost_after, no_stream, reasons, refused_after, stream_after}
use Rattle.gw_tell.specs.Counts.{transit_of}

-- a packet of source 7 that comes at this sample
abbrev packet : StreamCounts → ℕ → ℕ → ℕ → StreamCounts
packet s sample sequence timestamp =
    stream_after s (32 * sample) (record { payload_type = 8; sequence = sequence; timestamp = timestamp; ssrc = 7 })

-- a stream of source 7
abbrev known : ℕ → ℕ → ℕ → ℕ → StreamCounts
known highest transit lost jitter =
    record { source = Some 7; highest = highest; transit = transit; lost = lost; jitter = jitter }

-- the first packet: 5,000 - 1,000 samples
first : packet no_stream 5000 10 1000 ≡ known 10 4000 0 0
first = refl

-- 16 samples late: 0 - 8 / 16 + 16, a jitter of 1
second : packet (known 10 4000 0 0) 5176 11 1160 ≡ known 11 4016 0 16
second = refl

-- one is left out, and this one is in time again: 16 - 24 / 16 + 16
third : packet (known 11 4016 0 16) 5480 13 1480 ≡ known 13 4000 1 31
third = refl

-- the one that was left out comes behind it, 180 samples apart: 31 - 39 / 16 + 180
fourth : packet (known 13 4000 1 31) 5500 12 1320 ≡ known 13 4180 0 209
fourth = refl

-- 209 - 217 / 16 + 180, a jitter of 23
fifth : packet (known 13 4180 0 209) 5640 14 1640 ≡ known 14 4000 0 376
fifth = refl

-- another source begins with no jitter, and the lost packets stay
another_source : stream_after (known 14 4000 3 376) (32 * 9000)
    (record { payload_type = 8; sequence = 500; timestamp = 8000; ssrc = 8 })
    ≡ record { source = Some 8; highest = 500; transit = 1000; lost = 3; jitter = 0 }
another_source = refl

-- sequence number 0 is one ahead of 65,535; a timestamp of 2^32 - 1 is one before 0
round : packet (packet no_stream 0 65535 4294967295) 160 0 159 ≡ known 0 1 0 0
round = refl

-- transits on both sides of 0 are close together
close : map (apart 4294967295) (0 ∷ 4294967295 ∷ 2147483647 ∷ 2147483648 ∷ []) ≡ 1 ∷ 0 ∷ 2147483648 ∷ 2147483647 ∷ []
close = refl

-- one that was never thought lost makes none less than 0
none_less : map (lost_after 0) (0 ∷ 1 ∷ 5 ∷ 32767 ∷ 32768 ∷ 65535 ∷ []) ≡ 0 ∷ 0 ∷ 4 ∷ 32766 ∷ 0 ∷ 0 ∷ []
none_less = refl

-- a jitter of 100 samples falls by a sixteenth, rounded
falls : map (λ jitter. jitter_after jitter 0) (1600 ∷ 1607 ∷ 1608 ∷ 7 ∷ 8 ∷ []) ≡ 1500 ∷ 1507 ∷ 1507 ∷ 7 ∷ 7 ∷ []
falls = refl

-- octets of the trunk within a sample
within : map (λ place. transit_of place 0) (31 ∷ 32 ∷ 63 ∷ []) ≡ 0 ∷ 1 ∷ 1 ∷ []
within = refl

-- the header of a datagram
header : rtp_header (128 ∷ 8 ∷ 1 ∷ 2 ∷ 0 ∷ 0 ∷ 1 ∷ 0 ∷ 222 ∷ 173 ∷ 190 ∷ 239 ∷ [])
    ≡ record { payload_type = 8; sequence = 258; timestamp = 256; ssrc = 3735928559 }
unfolding header_of
header = refl

-- .. and of one that is too short
no_header : rtp_header (128 ∷ 8 ∷ 1 ∷ 2 ∷ 0 ∷ 0 ∷ 1 ∷ 0 ∷ 222 ∷ 173 ∷ 190 ∷ [])
    ≡ record { payload_type = 0; sequence = 0; timestamp = 0; ssrc = 0 }
no_header = refl

-- a datagram for a path that is not open counts for reason 20, the last
not_open : map (λ reason. refused_after 5 reason 20) reasons
    ≡ 5 ∷ 5 ∷ 5 ∷ 5 ∷ 5 ∷ 5 ∷ 5 ∷ 5 ∷ 5 ∷ 5 ∷ 5 ∷ 6 ∷ []
not_open = refl
