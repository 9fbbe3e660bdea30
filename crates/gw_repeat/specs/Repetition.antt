-- Which datagrams of a circuit are repeated.
use Rattle.std.specs.Prelude.{◌+◌, ◌%◌, ◌^◌, ◌==◌, ◌&&◌, nat_le, if◌then◌else◌, ℕ, zero, suc, Bool, false}
use Rattle.std.specs.Prelude.{List, [], ◌∷◌, take, drop, length}
use Rattle.rtp_packet.specs.Read.{header_of}

-- a datagram has a fixed header (RFC 3550, 5.1) and at most the words of 30 ms behind it
abbrev pub has_room : List ℕ → Bool
has_room datagram = nat_le 12 (length datagram) && nat_le (length datagram) 252

-- A datagram follows the latest of these (the latest first): its first word is the next behind that packet's
-- words.
abbrev pub continues : ℕ → List ℕ → List (List ℕ) → Bool
continues words datagram [] = false
continues words datagram (latest ∷ earlier) =
    (header_of datagram).timestamp == ((header_of latest).timestamp + words) % 2 ^ 32

-- a datagram in front of those before it, the latest first, if it follows them
abbrev pub with_next : ℕ → List ℕ → List (List ℕ) → List (List ℕ)
with_next words datagram earlier =
    if has_room datagram
    then datagram ∷ (if continues words datagram earlier then earlier else [])
    else []

-- the last consecutive datagrams of a circuit, all with the latest first
abbrev pub last_run : ℕ → List (List ℕ) → List (List ℕ)
last_run words [] = []
last_run words (datagram ∷ earlier) = with_next words datagram (last_run words earlier)

-- The datagram sent again behind the first of these, which are a circuit's, the latest first: the one n
-- datagrams before it, if all from it on are consecutive; none if n is 0.
abbrev pub repetition : ℕ → ℕ → List (List ℕ) → List (List ℕ)
repetition zero words datagrams = []
repetition (suc n) words datagrams = take 1 (drop (suc n) (last_run words datagrams))
