-- What a session of a gateway makes of its records, and what it writes for them (modules `handling`,
-- `exchange` and `processing`).
use Rattle.std.specs.Prelude.{ℕ, List, [], ◌∷◌, ◌++◌, length, take, drop, map, Option, Some, None, Err}
use Rattle.std.specs.Prelude.{flat_map}
use Rattle.gw_session.specs.Prelude.{CircuitEvent, Answers, Obeys, Changes, Event, Reply, Record, record_of}
use Rattle.q421_line.specs.Commands.{fault_number}
use Rattle.gw_circuit.specs.Faults as refusals
use Rattle.gw_records.specs.Octets.{command_of, codec_of}

-- the events of a record
abbrev pub events_of : Record → List Event
events_of (Record.Trunk octets) = map Event.Octet octets
events_of (Record.Datagram circuit octets) = Event.Given circuit (CircuitEvent.Datagram octets) ∷ []
events_of (Record.Command circuit command) =
    Event.Given circuit (CircuitEvent.Command (command_of command)) ∷ []
events_of (Record.Codec circuit codec payload_type) =
    Event.Given circuit (CircuitEvent.Codec (codec_of codec) payload_type) ∷ []

abbrev pub events : List Record → List Event
events records = flat_map events_of records

-- a record that is written
pub data Written : Type 0 where
  Trunk : (octets : List ℕ) → Written
  Datagram : (circuit : ℕ) → (octets : List ℕ) → Written
  Answered : (circuit : ℕ) → (kind : ℕ) → (code : ℕ) → Written

-- its octets
abbrev pub written_out : Written → List ℕ
written_out (Written.Trunk octets) = record_of 0x54 0 octets
written_out (Written.Datagram circuit octets) = record_of 0x44 circuit octets
written_out (Written.Answered circuit kind code) = record_of 0x52 circuit (kind ∷ code ∷ [])

-- the packet that is sent with an octet, with its circuit
abbrev pub packet_in : Option (ℕ × List ℕ) → List (ℕ × List ℕ)
packet_in None = []
packet_in (Some p) = p ∷ []

-- what a reply says of the trunk: the packet that is sent with an octet, and the octet that is sent
abbrev pub packets_in : Reply → List (ℕ × List ℕ)
packets_in (Reply.Sent out) = packet_in out.packet
packets_in _ = []

-- .. with a place for each octet: the packet that is sent with it, or that there is none
abbrev pub sent_with : Reply → List (Option (ℕ × List ℕ))
sent_with (Reply.Sent out) = out.packet ∷ []
sent_with _ = []

abbrev pub octets_in : Reply → List ℕ
octets_in (Reply.Sent out) = out.octet ∷ []
octets_in _ = []

-- a packet as a record that is written
abbrev pub as_record : ℕ × List ℕ → Written
as_record p = Written.Datagram p.0 p.1

-- 0, or the number of the fault
abbrev pub code_of : Reply → ℕ
code_of (Reply.Answered (Answers (Err dropped))) = refusals.code_of dropped
code_of (Reply.Answered (Obeys (Err fault))) = fault_number fault
code_of (Reply.Answered (Changes (Err fault))) = refusals.fault_number fault
code_of _ = 0

-- What answers a record, by the replies to its events: the datagrams that go with the octets of a trunk
-- record, and then a trunk record of equal length; one answer for any other.
abbrev pub answers : Record → List Reply → List Written
answers (Record.Trunk octets) replies =
    map as_record (flat_map packets_in replies) ++ Written.Trunk (flat_map octets_in replies) ∷ []
answers (Record.Datagram circuit octets) replies =
    map (λ r. Written.Answered circuit 0x44 (code_of r)) replies
answers (Record.Command circuit command) replies =
    map (λ r. Written.Answered circuit 0x43 (code_of r)) replies
answers (Record.Codec circuit codec payload_type) replies =
    map (λ r. Written.Answered circuit 0x4B (code_of r)) replies

-- what answers records, by the replies to the events of all of them
abbrev pub answered : List Record → List Reply → List Written
answered [] replies = []
answered (r ∷ records) replies =
    answers r (take (length (events_of r)) replies) ++ answered records (drop (length (events_of r)) replies)

-- .. as octets
abbrev pub render : List Record → List Reply → List ℕ
render records replies = flat_map written_out (answered records replies)

-- the octets of the trunk in a record that is written
abbrev pub trunk_in : Written → List ℕ
trunk_in (Written.Trunk octets) = octets
trunk_in _ = []

-- the datagram in a record that is written
abbrev pub datagrams_in : Written → List (ℕ × List ℕ)
datagrams_in (Written.Datagram circuit octets) = (circuit, octets) ∷ []
datagrams_in _ = []
