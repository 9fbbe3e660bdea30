-- What a playout answers, after the calls since it was new. A stream is what follows the last beginning. Its
-- packets have places, the first 0; each play is that of the next place, and gives the octets of the accepted
-- packet that has this place, or those that replace it.
use Rattle.std.specs.Prelude.{ℕ, suc, ◌+◌, ◌-◌, ◌%◌, ◌^◌, ◌==◌, not, nat_le, max, if◌then◌else◌, Bool, List}
use Rattle.std.specs.Prelude.{[], ◌∷◌, ◌++◌, length, Option, Some, None, is_some, Result, fold}
use Rattle.satop_playout.specs.declared.ArrivalFault.{ArrivalFault}
use Rattle.satop_playout.specs.declared.ArrivalFault.TheVariants.{OtherSize, NotBegun, Late, TooFar, Repeat}
use Rattle.satop_playout.specs.declared.Settings.{Settings}
use Rattle.satop_playout.specs.Calls.{PlayoutCall, Begins, Arrives, Plays, first_fault, answer_for}
use Rattle.satop_playout.specs.Replacement.{fill_of}

-- an accepted packet: its place in the stream and its octets
pub record PlacedPacket : Type 0 where
  pub place : ℕ
  pub octets : List ℕ

-- The stream: the number of its first packet, if one has begun; its accepted packets; the number of plays
-- since it began, which is the place of the next play. And what all plays gave, also those before the stream,
-- and how many octets at the end of that are filled in a row.
pub record PlayoutState : Type 0 where
  pub first : Option ℕ
  pub placed : List PlacedPacket
  pub now : ℕ
  pub given : List ℕ
  pub filled : ℕ

-- the state before any call
abbrev pub at_first : PlayoutState
at_first = record { first = None; placed = []; now = 0; given = []; filled = 0 }

-- the octets of the accepted packet that has a place
abbrev pub packet_at : List PlacedPacket → ℕ → Option (List ℕ)
packet_at [] place = None
packet_at (p ∷ placed) place = if p.place == place then Some p.octets else packet_at placed place

-- How many places after the next play a packet is due: its number less that of the first packet, less the
-- plays since then, modulo 2^16 (RFC 4553, 4.3). From 2^15 on its turn is over.
abbrev pub ahead_of : Option ℕ → ℕ → ℕ → ℕ
ahead_of None now sequence = 0
ahead_of (Some first) now sequence =
    (sequence + (2 ^ 16 - first % 2 ^ 16) + (2 ^ 16 - now % 2 ^ 16)) % 2 ^ 16

-- the number after one, modulo 2^16
abbrev pub number_after : Option ℕ → Option ℕ
number_after None = None
number_after (Some number) = Some ((number + 1) % 2 ^ 16)

abbrev pub ahead : PlayoutState → ℕ → ℕ
ahead s sequence = ahead_of s.first s.now sequence

-- why a packet is refused, if it is
abbrev pub refusal : Settings → PlayoutState → ℕ → List ℕ → Option ArrivalFault
refusal settings s sequence octets =
    first_fault (
    (not (length octets == settings.size), OtherSize)
    ∷ (not (is_some s.first), NotBegun)
    ∷ (nat_le (2 ^ 15) (ahead s sequence), Late)
    ∷ (nat_le settings.window (ahead s sequence), TooFar)
    ∷ (is_some (packet_at s.placed (s.now + ahead s sequence)), Repeat)
    ∷ [])

-- the state after a packet has arrived: it is added to the accepted ones, or nothing changes
abbrev pub after_arrival : Settings → PlayoutState → ℕ → List ℕ → PlayoutState
after_arrival settings s sequence octets =
    if is_some (refusal settings s sequence octets) then s
    else record s {
      placed = s.placed ++ record { place = s.now + ahead s sequence; octets = octets } ∷ [];
    }

-- the state after a stream has begun with this number
abbrev pub after_beginning : PlayoutState → ℕ → PlayoutState
after_beginning s sequence = record s { first = Some sequence; placed = []; now = 0 }

-- the packet whose turn it is, if it was accepted
abbrev pub due_now : PlayoutState → Option (List ℕ)
due_now s = packet_at s.placed s.now

-- the octets of a play: those of the packet, or those that replace it
abbrev pub octets_or_fill : Option (List ℕ) → List ℕ → List ℕ
octets_or_fill None fill = fill
octets_or_fill (Some octets) fill = octets

abbrev pub octets_now : Settings → PlayoutState → List ℕ
octets_now settings s = octets_or_fill (due_now s) (fill_of settings.fill settings.size s.given s.filled)

-- how many octets in a row are filled after a play
abbrev pub filled_for : Option (List ℕ) → ℕ → ℕ → ℕ
filled_for None size filled = filled + size
filled_for (Some octets) size filled = 0

-- the state after a play
abbrev pub after_play : Settings → PlayoutState → PlayoutState
after_play settings s = record s {
  now = s.now + 1;
  given = s.given ++ octets_now settings s;
  filled = filled_for (due_now s) settings.size s.filled;
}

abbrev pub after_call : Settings → PlayoutState → PlayoutCall → PlayoutState
after_call settings s (Begins sequence) = after_beginning s sequence
after_call settings s (Arrives sequence octets) = after_arrival settings s sequence octets
after_call settings s Plays = after_play settings s

-- the stream after calls
unfoldable pub stream : Settings → List PlayoutCall → PlayoutState
stream settings calls = fold (after_call settings) at_first calls

-- the answer to a packet that arrives, after these calls
unfoldable pub arrival_answer : Settings → List PlayoutCall → ℕ → List ℕ → Result (Unit {0}) ArrivalFault
arrival_answer settings calls sequence octets =
    answer_for (refusal settings (stream settings calls) sequence octets)

-- whether the packet of a play after these calls is there
unfoldable pub is_there : Settings → List PlayoutCall → Bool
is_there settings calls = is_some (due_now (stream settings calls))

-- the octets of a play after these calls
unfoldable pub play_octets : Settings → List PlayoutCall → List ℕ
play_octets settings calls = octets_now settings (stream settings calls)

-- the octets of all plays among calls, in order
unfoldable pub given_octets : Settings → List PlayoutCall → List ℕ
given_octets settings calls = (stream settings calls).given

-- how many packets there are from a place to the last accepted one, both counted; 0 if none is there
abbrev pub reach_from : List PlacedPacket → ℕ → ℕ
reach_from [] place = 0
reach_from (p ∷ placed) place = max (suc p.place - place) (reach_from placed place)

-- that from the next play, after these calls
unfoldable pub reach_after : Settings → List PlayoutCall → ℕ
reach_after settings calls = let s = stream settings calls in reach_from s.placed s.now
