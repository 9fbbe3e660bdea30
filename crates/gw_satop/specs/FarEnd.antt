-- What the socket of a far end did (module `peer`).
use Rattle.std.specs.Prelude.{◌≡◌, ◌⊎◌, ℕ, Bool, List, [], ◌∷◌, take, flat_map, Some, None}
use Rattle.std.specs.Prelude.{Result, Ok, Err, is_ok}
use Rattle.std.specs.declared.net.socket_addr.SocketAddr.{SocketAddr}
use Rattle.gw_records.specs.declared.ports.PortFault.{PortFault}
use Rattle.gw_satop.specs.declared.log.History.{History}
use Rattle.gw_udp.specs.Socket.{Received, ReceivesAny, Sent}

-- a call of the socket: it received a datagram, found none or failed, or was given one to send, which the
-- system took or not
pub data SocketCall : Type 0 where
  Heard : (octets : List ℕ) → SocketCall
  FoundNone : SocketCall
  Failed : SocketCall
  Given : (octets : List ℕ) → (taken : Bool) → SocketCall

-- the datagrams that a call received, and those that it was given
abbrev pub received_by : SocketCall → List (List ℕ)
received_by (SocketCall.Heard octets) = octets ∷ []
received_by call = []

abbrev pub given_to : SocketCall → List (List ℕ)
given_to (SocketCall.Given octets taken) = octets ∷ []
given_to call = []

-- .. and whether the system took it
abbrev pub taken_of : SocketCall → List Bool
taken_of (SocketCall.Given octets taken) = taken ∷ []
taken_of call = []

-- the relations of a socket
pub record Relations (S : Type 0) : Type 1 where
  pub receives : Received S
  pub sends : Sent S

-- a receive had this result, and these octets are at the front of the room
pub record HasHeard {S : Type 0} (receives : Received S) (octets : List ℕ) (old new : S) : Type 0 where
  pub len : ℕ
  pub room : List ℕ
  pub front : octets ≡ take len room
  pub received : ReceivesAny receives old new (Ok (Some len)) room

-- the socket was called, and what it sent went to this address
abbrev pub IsCalled : {S : Type 0} → Relations S → SocketAddr → SocketCall → S → S → Type 0
IsCalled how there (SocketCall.Heard octets) old new = HasHeard how.receives octets old new
IsCalled how there SocketCall.FoundNone old new =
    (room : List ℕ) × ReceivesAny how.receives old new (Ok None) room
IsCalled how there SocketCall.Failed old new =
    (fault : PortFault) × (room : List ℕ) × ReceivesAny how.receives old new (Err fault) room
IsCalled how there (SocketCall.Given octets taken) old new = (answer : Result (Unit {0}) PortFault)
    × how.sends old new there octets answer × (taken ≡ is_ok answer)

-- the last call of a socket was a receive that found none, or failed
abbrev pub HasFoundNone : {S : Type 0} → Received S → S → Type 0
HasFoundNone {S} receives socket = (before : S) × (room : List ℕ)
    × (ReceivesAny receives before socket (Ok None) room
    ⊎ ((fault : PortFault) × ReceivesAny receives before socket (Err fault) room))

-- .. one call after another
abbrev pub AreCalled : {S : Type 0} → Relations S → SocketAddr → List SocketCall → S → S
    → Type 0
AreCalled how there [] old new = new ≡ old
AreCalled {S} how there (call ∷ calls) old new = (between : S)
    × IsCalled how there call old between
    × AreCalled how there calls between new

-- What came from the far end is what the socket's calls received, in order, and what was sent is what they
-- were given, each with a flag: whether the system took it.
pub record IsBySocket {S : Type 0} (how : Relations S) (there : SocketAddr) (opened socket : S)
    (received : List (List ℕ)) (sent : History) : Type 0 where
  pub calls : List SocketCall
  pub called : AreCalled how there calls opened socket
  pub received_are : received ≡ flat_map received_by calls
  pub sent_are : sent.datagrams ≡ flat_map given_to calls
  pub taken_are : sent.flags ≡ flat_map taken_of calls
