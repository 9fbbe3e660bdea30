-- How many octets sockets gave since the ports last looked.
use Rattle.std.specs.Prelude.{◌≡◌, ◌+◌, ◌-◌, ◌<◌, ◌≤◌, ◌==◌, ◌++◌, ℕ, List, [], ◌∷◌, length, max, sum_by}
use Rattle.std.specs.Prelude.{Option, Some, None, Result, Ok, Err, true, slice_index_or, slice_set}
use Rattle.std.specs.Prelude.{if◌then◌else◌}
use Rattle.gw_udp.specs.declared.given.GivenOctets.{GivenOctets}
use Rattle.gw_records.specs.declared.ports.PortFault.{PortFault}
use Rattle.gw_records.specs.Ports.{PortCall}
use Rattle.gw_records.specs.Streams.{at_most}

-- the octets that the socket of a circuit gave, of the counts of circuits 1 to 30
abbrev pub given_by : List ℕ → ℕ → ℕ
given_by counts circuit = slice_index_or counts (circuit - 1) 0

-- these are enough, where they are limited: until the ports look again the circuit receives nothing more
pub record HasGivenEnough (given : GivenOctets) (circuit : ℕ) : Type 0 where
  pub limited : given.limited ≡ true
  pub enough : 65536 ≤ given_by given.counts circuit

-- the counts after a receive of a circuit: if it gave a datagram, that circuit's has its octets too
abbrev pub given_after : List ℕ → ℕ → Result (Option ℕ) PortFault → List ℕ
given_after counts circuit (Ok (Some len)) =
    slice_set counts (circuit - 1) (at_most (given_by counts circuit + len))
given_after counts circuit (Ok None) = counts
given_after counts circuit (Err e) = counts

-- the octets of a datagram that a call gave for this circuit
abbrev pub octets_given : ℕ → PortCall → ℕ
octets_given circuit (PortCall.Gave c octets) = if c == circuit then length octets else 0
octets_given circuit call = 0

-- .. of the longest of these calls
abbrev pub longest_of : ℕ → List PortCall → ℕ
longest_of circuit [] = 0
longest_of circuit (call ∷ calls) = max (octets_given circuit call) (longest_of circuit calls)

-- Since a look, behind these calls, each circuit received fewer octets than 65,536 and those of the longest
-- datagram, and they are counted.
pub record GivesFew (before calls : List PortCall) (counts : List ℕ) : Type 0 where
  pub since : List PortCall
  pub behind : calls ≡ before ++ since
  pub few : (circuit : ℕ) → sum_by (octets_given circuit) since < 65536 + longest_of circuit since
  pub counted : (circuit : ℕ) → 1 ≤ circuit → circuit ≤ 30
      → given_by counts circuit ≡ at_most (sum_by (octets_given circuit) since)
