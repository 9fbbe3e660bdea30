-- The calls of the ports below, by those of a session.
use Rattle.std.specs.Prelude.{◌≡◌, ◌≢◌, ◌==◌, ◌+◌, ◌-◌, ◌<◌, ◌++◌, if◌then◌else◌, ℕ, List, [], ◌∷◌}
use Rattle.std.specs.Prelude.{map, flat_map, reverse, take, slice_index, slice_index_or, Some}
use Rattle.std.specs.VecDeque.{deque_capacity}
use Rattle.gw_records.specs.Ports.{PortCall, PortsState, Extends, given_by_call, taken_by_call, KeepsReceives}
use Rattle.gw_repeat.specs.Repetition.{last_run, repetition, with_next}
use Rattle.gw_repeat.specs.declared.packet.Packet.{Packet}
use Rattle.gw_repeat.specs.declared.held.RecentDatagrams.{RecentDatagrams}

-- the octets of datagrams in the queue
abbrev pub held_octets : List Packet → List (List ℕ)
held_octets packets = map (λ p. p.octets.items) packets

-- the datagram of a send of this circuit
abbrev pub sent_by_call : ℕ → PortCall → List (List ℕ)
sent_by_call circuit (PortCall.Took c datagram) = if c == circuit then datagram ∷ [] else []
sent_by_call circuit (PortCall.SendFailed c datagram) = if c == circuit then datagram ∷ [] else []
sent_by_call circuit call = []

-- the datagrams of sends of this circuit
abbrev pub sent_of : ℕ → List PortCall → List (List ℕ)
sent_of circuit calls = flat_map (sent_by_call circuit) calls

-- a send as if it had been taken, and a receive unchanged
abbrev pub attempt : PortCall → PortCall
attempt (PortCall.SendFailed circuit datagram) = PortCall.Took circuit datagram
attempt call = call

-- The sends that follow a call of a session, given it and those before it, the latest first: behind a send
-- the datagram of its circuit that is due, and none behind a receive.
abbrev pub repeats_behind : ℕ → (ℕ → ℕ) → PortCall → List PortCall → List PortCall
repeats_behind n words (PortCall.Took circuit datagram) earlier =
    map (PortCall.Took circuit) (repetition n (words circuit) (datagram ∷ sent_of circuit earlier))
repeats_behind n words (PortCall.SendFailed circuit datagram) earlier =
    map (PortCall.Took circuit) (repetition n (words circuit) (datagram ∷ sent_of circuit earlier))
repeats_behind n words call earlier = []

-- The calls below those of a session, all with the latest first: each call unchanged, then the sends that
-- follow it, taken or failed, and no others.
abbrev pub Repeats : ℕ → (ℕ → ℕ) → List PortCall → List PortCall → Type 0
Repeats n words [] below = below ≡ []
Repeats n words (call ∷ earlier) below = (again : List PortCall) × (rest : List PortCall)
    × (below ≡ reverse again ++ call ∷ rest) × (map attempt again ≡ repeats_behind n words call earlier)
    × Repeats n words earlier rest

-- the words of a packet of a circuit, by the list for circuits 1 to 30
abbrev pub words_at : List ℕ → ℕ → ℕ
words_at words circuit = slice_index words (circuit - 1)

-- the octets of a circuit's datagrams in the queue, the latest first
abbrev pub held_of : ℕ → List RecentDatagrams → RecentDatagrams → List (List ℕ)
held_of circuit held d = held_octets (slice_index_or held (circuit - 1) d).packets.items

-- .. with the next datagram in front of those that it follows
abbrev pub run_with : List ℕ → ℕ → List ℕ → List RecentDatagrams → RecentDatagrams → List (List ℕ)
run_with words circuit datagram held d = with_next (words_at words circuit) datagram (held_of circuit held d)

-- the queue of a circuit has memory for n datagrams
abbrev pub HasRoom : ℕ → ℕ → List RecentDatagrams → Type 0
HasRoom n circuit held = (d : RecentDatagrams)
    → deque_capacity (slice_index_or held (circuit - 1) d).packets ≡ n

-- the calls below grew by those of one of the session's
pub record HasRepeated (n : ℕ) (words : List ℕ) (calls old new : List PortCall) : Type 0 where
  pub more : List PortCall
  pub grew : new ≡ old ++ more
  pub repeats : Repeats n (words_at words) (reverse calls) (reverse more)

-- the last n consecutive datagrams of a circuit are in the queue, the latest first, which has memory for n
pub record IsHeld (n words : ℕ) (datagrams : List (List ℕ)) (held : RecentDatagrams) : Type 0 where
  pub last : held_octets held.packets.items ≡ take n (last_run words datagrams)
  pub room : deque_capacity held.packets ≡ n

-- .. of each circuit, after these calls
abbrev pub AreHeld : ℕ → List ℕ → List PortCall → List RecentDatagrams → Type 0
AreHeld n words calls held = (i : ℕ) (d : RecentDatagrams) → i < 30
    → IsHeld n (slice_index words i) (sent_of (i + 1) (reverse calls)) (slice_index_or held i d)

-- ports sent these datagrams of a circuit and did nothing else
pub record SendsAgain (old new : PortsState) (circuit : ℕ) (due : List (List ℕ)) : Type 0 where
  pub again : List PortCall
  pub grew : Extends old.calls new.calls again
  pub sends : map attempt again ≡ map (PortCall.Took circuit) due
  pub stays : KeepsReceives old new

-- all circuits except this one are unchanged
abbrev pub KeepsOthers : ℕ → List RecentDatagrams → List RecentDatagrams → Type 0
KeepsOthers circuit old new = (i : ℕ) (d : RecentDatagrams) → i ≢ circuit - 1
    → slice_index_or new i d ≡ slice_index_or old i d

-- What ports over others report: receives as those below do, sends and calls as the session asked for them.
abbrev pub told : PortsState → ℕ → List PortCall → PortsState
told below send_failed calls = record {
  receive_failures = below.receive_failures;
  send_failures = send_failed;
  addresses = below.addresses;
  waiting = below.waiting;
  given = Some (flat_map given_by_call calls);
  taken = Some (flat_map taken_by_call calls);
  calls = Some calls;
}
