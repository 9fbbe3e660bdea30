-- The sockets of circuits, and the effect of a receive and a send for a circuit.
use Rattle.std.specs.Prelude.{◌≡◌, ◌≢◌, ◌⊎◌, ◌-◌, ◌<◌, ◌≤◌, ℕ, zero, suc, List, slice_index_or, ⊤}
use Rattle.std.specs.Prelude.{Option, Some, None, Result, Ok, Err, string_bytes}
use Rattle.std.specs.declared.net.socket_addr.SocketAddr.{SocketAddr}
use Rattle.std.specs.Net.Addr.{is_ipv4}
use Rattle.std.specs.Net.Socket.{socket_ip}
use Rattle.gw_config.specs.declared.config.Port.{Port}
use Rattle.gw_records.specs.declared.ports.PortFault.{PortFault}
use Rattle.gw_records.specs.Ports.{Addresses}
use Rattle.gw_udp.specs.Opening.{IsAddressOf}
use Rattle.gw_udp.specs.SourceFilter.{IsAccepted}
use Rattle.gw_udp.specs.Socket.{Received, Sent}
use Rattle.gw_udp.specs.declared.source_filter.SourceFilter.{SourceFilter}
use Rattle.gw_udp.specs.declared.udp.Endpoint.{Endpoint}

-- the socket is the host's at the circuit's local port, its datagrams go to the circuit's peer, and both
-- addresses are of one family
pub record IsEndpointOf {S : Type 0} (host : List ℕ) (senders : SourceFilter) (port : Port) (e : Endpoint S)
    : Type 0 where
  pub here_is : IsAddressOf host port.local_port e.here.value
  pub senders_are : e.senders ≡ senders
  pub peer_is : IsAddressOf (string_bytes port.peer_host) port.peer_port e.peer
  pub one_family : is_ipv4 (socket_ip e.here.value) ≡ is_ipv4 (socket_ip e.peer)

-- there is a socket exactly if there are ports, and it is theirs
abbrev pub IsEndpoint : {S : Type 0} → List ℕ → SourceFilter → Option Port → Option (Endpoint S) → Type 0
IsEndpoint host senders None None = ⊤
IsEndpoint host senders None (Some e) = ⊥
IsEndpoint host senders (Some port) None = ⊥
IsEndpoint host senders (Some port) (Some e) = IsEndpointOf host senders port e

-- each of the first this many circuits has the socket of its own ports
abbrev pub HasEndpoints : {S : Type 0} → List ℕ → SourceFilter → List (Option Port)
    → List (Option (Endpoint S)) → ℕ → Type 0
HasEndpoints {S} host senders ports endpoints n = (i : ℕ) (d : Option Port) (e : Option (Endpoint S)) → i < n
    → IsEndpoint host senders (slice_index_or ports i d) (slice_index_or endpoints i e)

-- all circuits except this one are unchanged
abbrev pub KeepsOthers : {S : Type 0} → ℕ → List (Option (Endpoint S)) → List (Option (Endpoint S)) → Type 0
KeepsOthers {S} c old new = (i : ℕ) (d : Option (Endpoint S)) → i ≢ c - 1
    → slice_index_or new i d ≡ slice_index_or old i d

-- a receive at a socket, after earlier ones, gave a stranger's datagram: one of a sender that is not accepted
pub record Strays {S : Type 0} (receives : Received S) (accepted : SocketAddr → Type 0)
    (earlier : S → Type 0) (new : S) : Type 0 where
  pub between : S
  pub before : earlier between
  pub len : ℕ
  pub from : SocketAddr
  pub room : List ℕ
  pub received : receives between new (Ok (Some (len, from))) room
  pub stranger : ¬ accepted from

-- this many receives at a socket gave strangers' datagrams
abbrev pub Skips : {S : Type 0} → Received S → (SocketAddr → Type 0) → ℕ → S → S → Type 0
Skips receives accepted zero old new = new ≡ old
Skips receives accepted (suc n) old new = Strays receives accepted (Skips receives accepted n old) new

-- the last of them is the result: an accepted datagram, a fault, or none, also after sixteen strangers
abbrev pub EndsWith : {S : Type 0} → Received S → (SocketAddr → Type 0) → ℕ → S → S
    → Result (Option ℕ) PortFault → List ℕ → Type 0
EndsWith receives accepted n old new (Ok (Some len)) room =
    (from : SocketAddr) × receives old new (Ok (Some (len, from))) room × accepted from
EndsWith receives accepted n old new (Ok None) room =
    receives old new (Ok None) room ⊎ ((new ≡ old) × (n ≡ 16))
EndsWith receives accepted n old new (Err e) room = receives old new (Err e) room

-- a receive discarded strangers' datagrams and gave what came then
pub record ReceivesFrom {S : Type 0} (receives : Received S) (accepted : SocketAddr → Type 0)
    (old new : S) (r : Result (Option ℕ) PortFault) (room : List ℕ) : Type 0 where
  pub skipped : ℕ
  pub few : skipped ≤ 16
  pub last : S
  pub skips : Skips receives accepted skipped old last
  pub ends : EndsWith receives accepted skipped last new r room

-- the receive of one circuit: no socket was asked, or this one, whose answer is the result; the circuit keeps
-- to this sender, if it keeps to the first one
abbrev pub ReceivesAt : {S : Type 0} → Received S → Option SocketAddr → Option (Endpoint S)
    → Option (Endpoint S) → Result (Option ℕ) PortFault → List ℕ → Type 0
ReceivesAt receives first None new r room = (new ≡ None) × (r ≡ Ok None)
ReceivesAt receives first (Some e) None r room = ⊥
ReceivesAt receives first (Some e) (Some f) r room =
    (f.here ≡ e.here) × (f.peer ≡ e.peer) × (f.senders ≡ e.senders)
    × ReceivesFrom receives (IsAccepted e.senders e.peer first) e.socket f.socket r room

-- a receive for circuit c is one at its own socket
abbrev pub EndpointReceives : {S : Type 0} → Received S → Option SocketAddr → ℕ → List (Option (Endpoint S))
    → List (Option (Endpoint S)) → Result (Option ℕ) PortFault → List ℕ → Type 0
EndpointReceives {S} receives first c old new r room = (d : Option (Endpoint S))
    → ReceivesAt receives first (slice_index_or old (c - 1) d) (slice_index_or new (c - 1) d) r room

-- the socket of one circuit had none, if there is a socket
abbrev pub FindsNone : {S : Type 0} → Received S → Option (Endpoint S) → Option (Endpoint S) → List ℕ → Type 0
FindsNone receives None new room = ⊤
FindsNone receives (Some e) None room = ⊥
FindsNone receives (Some e) (Some f) room = receives e.socket f.socket (Ok None) room

-- .. that of circuit c
abbrev pub EndpointFindsNone : {S : Type 0} → Received S → ℕ → List (Option (Endpoint S))
    → List (Option (Endpoint S)) → List ℕ → Type 0
EndpointFindsNone {S} receives c old new room = (d : Option (Endpoint S))
    → FindsNone receives (slice_index_or old (c - 1) d) (slice_index_or new (c - 1) d) room

-- the send of one circuit: it went to the circuit's peer, or nowhere without a socket
abbrev pub SendsAt : {S : Type 0} → Sent S → Option (Endpoint S) → Option (Endpoint S) → List ℕ
    → Result (Unit {0}) PortFault → Type 0
SendsAt sends None new datagram r = (new ≡ None) × (r ≡ Ok tt)
SendsAt sends (Some e) None datagram r = ⊥
SendsAt sends (Some e) (Some f) datagram r =
    (f.here ≡ e.here) × (f.peer ≡ e.peer) × (f.senders ≡ e.senders)
    × sends e.socket f.socket e.peer datagram r

-- a send for circuit c is one by its own socket, to its own peer
abbrev pub EndpointSends : {S : Type 0} → Sent S → ℕ → List (Option (Endpoint S))
    → List (Option (Endpoint S)) → List ℕ → Result (Unit {0}) PortFault → Type 0
EndpointSends {S} sends c old new datagram r = (d : Option (Endpoint S))
    → SendsAt sends (slice_index_or old (c - 1) d) (slice_index_or new (c - 1) d) datagram r

-- the addresses of a circuit's socket: its own and its peer's
abbrev pub addresses_at : {S : Type 0} → Option (Endpoint S) → Option (SocketAddr × SocketAddr)
addresses_at None = None
addresses_at (Some e) = Some (e.here.value, e.peer)

-- .. of circuits 1 to 30
abbrev pub addresses_of : {S : Type 0} → List (Option (Endpoint S)) → Addresses
addresses_of endpoints circuit = addresses_at (slice_index_or endpoints (circuit - 1) None)
