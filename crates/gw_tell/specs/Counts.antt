-- What is counted of the datagrams of each circuit (module `counts`).
use Rattle.std.specs.Prelude.{◌≡◌, ◌≢◌, ◌≤◌, ◌<◌, ◌+◌, ◌-◌, ◌*◌, ◌/◌, ◌%◌, ◌^◌, ◌==◌, min, ℕ, List, [], ◌∷◌}
use Rattle.std.specs.Prelude.{Bool, true, false, if◌then◌else◌, nat_lt, Option, Some, None, slice_index_or}
use Rattle.gw_records.specs.Streams.{at_most}
use Rattle.gw_tell.specs.declared.counts.DatagramCounts.{DatagramCounts}
use Rattle.gw_tell.specs.declared.counts.StreamCounts.{StreamCounts}
use Rattle.rtp_packet.specs.declared.Header.{Header}
use Rattle.gw_tell.specs.Headers.{rtp_header}

-- the numbers of the reasons for which datagrams are refused (e1gw-session(5)), in the order of their counts
abbrev pub reasons : List ℕ
reasons = 1 ∷ 2 ∷ 3 ∷ 4 ∷ 5 ∷ 11 ∷ 12 ∷ 13 ∷ 14 ∷ 15 ∷ 16 ∷ 20 ∷ []

-- one of some counts
abbrev pub nth : List ℕ → ℕ → ℕ
nth counts i = slice_index_or counts i 0

-- a count of the datagrams that are refused for a reason, behind one that was refused for this one
abbrev pub refused_after : ℕ → ℕ → ℕ → ℕ
refused_after count reason code = if reason == code then at_most (count + 1) else count

-- whether a packet is of the source that is counted
abbrev pub is_of : Option ℕ → ℕ → Bool
is_of None source = false
is_of (Some counted) source = counted == source

-- how far a sequence number is ahead of the highest one; from 32,768 on it is behind it (RFC 3550, A.1)
abbrev pub ahead_of : ℕ → ℕ → ℕ
ahead_of highest sequence = (sequence + (65536 - highest)) % 65536

-- the highest sequence number behind a packet
abbrev pub highest_after : ℕ → ℕ → ℕ
highest_after highest sequence = if nat_lt (ahead_of highest sequence) 32768 then sequence else highest

-- the packets that are lost behind one that is so far ahead (RFC 3550, 6.4.1 and A.3): those left out before
-- it are lost, and one from behind was counted as lost
abbrev pub lost_after : ℕ → ℕ → ℕ
lost_after lost ahead = if nat_lt ahead 32768 then at_most (lost + (ahead - 1)) else lost - 1

-- the arrival of a packet less its timestamp, in samples of 32 octets of the trunk (RFC 3550, A.8)
abbrev pub transit_of : ℕ → ℕ → ℕ
transit_of place timestamp = ((place / 32) % 2 ^ 32 + (2 ^ 32 - timestamp)) % 2 ^ 32

-- how far apart two of them are: |D| (RFC 3550, 6.4.1)
abbrev pub apart : ℕ → ℕ → ℕ
apart last transit =
    min ((transit + (2 ^ 32 - last)) % 2 ^ 32) (2 ^ 32 - (transit + (2 ^ 32 - last)) % 2 ^ 32)

-- sixteen times the jitter, behind packets that are so far apart (RFC 3550, A.8)
abbrev pub jitter_after : ℕ → ℕ → ℕ
jitter_after jitter d = at_most (jitter - at_most (jitter + 8) / 16 + d)

-- a stream behind a packet that was accepted at a place of the trunk
abbrev pub stream_after : StreamCounts → ℕ → Header → StreamCounts
stream_after s place h = if is_of s.source h.ssrc
    then record s {
      highest = highest_after s.highest h.sequence;
      transit = transit_of place h.timestamp;
      lost = lost_after s.lost (ahead_of s.highest h.sequence);
      jitter = jitter_after s.jitter (apart s.transit (transit_of place h.timestamp));
    }
    else record s {
      source = Some h.ssrc;
      highest = h.sequence;
      transit = transit_of place h.timestamp;
      jitter = 0;
    }

-- the counts of a circuit behind a datagram that came at a place of the trunk, and was accepted, or refused
-- for the reason of this number
pub record AreCountedAt (place : ℕ) (octets : List ℕ) (code : ℕ) (c c' : DatagramCounts) : Type 0 where
  pub accepted : c'.accepted ≡ (if code == 0 then at_most (c.accepted + 1) else c.accepted)
  pub stream : c'.stream ≡ (if code == 0 then stream_after c.stream place (rtp_header octets) else c.stream)
  pub refused : (i : ℕ) → i < 12 → nth c'.refused i ≡ refused_after (nth c.refused i) (nth reasons i) code
  pub is_new : c'.is_new ≡ true

-- a stream of which nothing has come
abbrev pub no_stream : StreamCounts
no_stream = record { source = None; highest = 0; transit = 0; lost = 0; jitter = 0 }

-- nothing has come to a circuit
abbrev pub no_counts : DatagramCounts
no_counts = record {
  accepted = 0;
  refused = 0 ∷ 0 ∷ 0 ∷ 0 ∷ 0 ∷ 0 ∷ 0 ∷ 0 ∷ 0 ∷ 0 ∷ 0 ∷ 0 ∷ [];
  stream = no_stream;
  is_new = false;
}

-- the counts of a circuit, of those of circuits 1 to 30
abbrev pub counts_at : List DatagramCounts → ℕ → DatagramCounts
counts_at counts circuit = slice_index_or counts (circuit - 1) no_counts

-- a datagram of a circuit was counted there, and nowhere else
pub record IsCounted (circuit place : ℕ) (octets : List ℕ) (code : ℕ)
    (counts counts' : List DatagramCounts) : Type 0
  where
    pub here : AreCountedAt place octets code (counts_at counts circuit) (counts_at counts' circuit)
    pub others : (c : ℕ) → 1 ≤ c → c ≢ circuit → counts_at counts' c ≡ counts_at counts c

-- the counts of a circuit when they were told, if they are due
abbrev pub told_at : Bool → DatagramCounts → DatagramCounts
told_at true c = record c { is_new = false }
told_at false c = c
