-- The effect of port calls at the sockets of circuits.
use Rattle.std.specs.Prelude.{◌≡◌, ◌⊎◌, ◌==◌, ◌-◌, ◌≤◌, ℕ, List, [], ◌∷◌, take, filter, slice_index_or}
use Rattle.std.specs.Prelude.{Option, Some, None, Ok, Err}
use Rattle.std.specs.declared.net.socket_addr.SocketAddr.{SocketAddr}
use Rattle.gw_records.specs.declared.ports.PortFault.{PortFault}
use Rattle.gw_records.specs.Ports.{PortCall}
use Rattle.gw_udp.specs.Socket.{Received, Sent}
use Rattle.gw_udp.specs.Udp.{KeepsOthers, ReceivesAt, SendsAt}
use Rattle.gw_udp.specs.declared.udp.Endpoint.{Endpoint}

-- the circuit of a call
abbrev pub circuit_of : PortCall → ℕ
circuit_of (PortCall.Gave circuit octets) = circuit
circuit_of (PortCall.FoundNone circuit) = circuit
circuit_of (PortCall.ReceiveFailed circuit) = circuit
circuit_of (PortCall.Took circuit octets) = circuit
circuit_of (PortCall.SendFailed circuit octets) = circuit

-- a receive at a socket had this result, and these octets are at the front of the room
pub record HasGiven {S : Type 0} (receives : Received S) (octets : List ℕ) (old new : Option (Endpoint S))
    : Type 0 where
  pub len : ℕ
  pub room : List ℕ
  pub front : octets ≡ take len room
  pub first : Option SocketAddr
  pub received : ReceivesAt receives first old new (Ok (Some len)) room

-- A call was made at this socket, or without a socket found nothing or was dropped. What was held back found
-- nothing either, and the socket is unchanged.
abbrev pub HasMade : {S : Type 0} → Received S → Sent S → PortCall → Option (Endpoint S)
    → Option (Endpoint S) → Type 0
HasMade receives sends (PortCall.Gave circuit octets) old new = HasGiven receives octets old new
HasMade receives sends (PortCall.FoundNone circuit) old new =
    ((room : List ℕ) × (first : Option SocketAddr) × ReceivesAt receives first old new (Ok None) room)
    ⊎ (new ≡ old)
HasMade receives sends (PortCall.ReceiveFailed circuit) old new =
    (fault : PortFault) × (room : List ℕ) × (first : Option SocketAddr)
    × ReceivesAt receives first old new (Err fault) room
HasMade receives sends (PortCall.Took circuit octets) old new = SendsAt sends old new octets (Ok tt)
HasMade receives sends (PortCall.SendFailed circuit octets) old new =
    (fault : PortFault) × SendsAt sends old new octets (Err fault)

-- calls were made at this socket, one after another
abbrev pub HasMadeAll : {S : Type 0} → Received S → Sent S → List PortCall → Option (Endpoint S)
    → Option (Endpoint S) → Type 0
HasMadeAll receives sends [] old new = new ≡ old
HasMadeAll {S} receives sends (call ∷ calls) old new = (between : Option (Endpoint S))
    × HasMade receives sends call old between × HasMadeAll receives sends calls between new

-- a call was made at its own circuit's socket, and all other sockets are unchanged
pub record HasCalledOne {S : Type 0} (receives : Received S) (sends : Sent S) (call : PortCall)
    (old new : List (Option (Endpoint S))) : Type 0 where
  pub some : 1 ≤ circuit_of call
  pub own : (d : Option (Endpoint S)) → HasMade receives sends call
      (slice_index_or old (circuit_of call - 1) d) (slice_index_or new (circuit_of call - 1) d)
  pub others : KeepsOthers (circuit_of call) old new

-- calls were made at the sockets, one after another
abbrev pub HasCalled : {S : Type 0} → Received S → Sent S → List PortCall → List (Option (Endpoint S))
    → List (Option (Endpoint S)) → Type 0
HasCalled receives sends [] old new = new ≡ old
HasCalled {S} receives sends (call ∷ calls) old new = (between : List (Option (Endpoint S)))
    × HasCalledOne receives sends call old between × HasCalled receives sends calls between new

-- the calls for this circuit
abbrev pub calls_for : ℕ → List PortCall → List PortCall
calls_for circuit calls = filter (λ call. circuit_of call == circuit) calls

-- the sockets are as opened, and there was no call
abbrev pub IsFresh : {S : Type 0} → List (Option (Endpoint S)) → List (Option (Endpoint S)) → List PortCall
    → Type 0
IsFresh endpoints opened calls = (endpoints ≡ opened) × (calls ≡ [])

-- The present state of a circuit's socket follows from the calls for this circuit alone: what the circuit
-- received came from its own socket, and what it sent went out there.
abbrev pub HasOwnSocket : {S : Type 0} → Received S → Sent S → ℕ → List PortCall → List (Option (Endpoint S))
    → List (Option (Endpoint S)) → Type 0
HasOwnSocket receives sends circuit calls opened endpoints = HasMadeAll receives sends
    (calls_for circuit calls) (slice_index_or opened (circuit - 1) None)
    (slice_index_or endpoints (circuit - 1) None)

-- .. and each circuit has its own
abbrev pub EachHasItsSocket : {S : Type 0} → Received S → Sent S → List PortCall → List (Option (Endpoint S))
    → List (Option (Endpoint S)) → Type 0
EachHasItsSocket receives sends calls opened endpoints = (circuit : ℕ) → 1 ≤ circuit
    → HasOwnSocket receives sends circuit calls opened endpoints
