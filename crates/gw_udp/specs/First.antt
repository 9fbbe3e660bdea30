-- The sender that a circuit keeps to which accepts the first one's datagrams (module `first_senders`).
use Rattle.std.specs.Prelude.{◌≡◌, ◌≢◌, ◌-◌, ℕ, List, Bool, true, false, Option, Some, None, Ok, ⊤}
use Rattle.std.specs.Prelude.{slice_index_or}
use Rattle.std.specs.declared.net.socket_addr.SocketAddr.{SocketAddr}
use Rattle.gw_udp.specs.declared.first_senders.FirstSenders.{FirstSenders}
use Rattle.gw_udp.specs.Socket.{Received}
use Rattle.gw_udp.specs.declared.source_filter.SourceFilter.TheVariants.{Any}
use Rattle.gw_udp.specs.declared.udp.Endpoint.{Endpoint}

-- the sender that a circuit keeps to, if its call has accepted a datagram
abbrev pub first_of : FirstSenders → ℕ → Option SocketAddr
first_of firsts circuit = slice_index_or firsts.known (circuit - 1) None

-- .. when a datagram of this sender came, and was accepted or not: the first one that was accepted stays
abbrev pub known_after : Option SocketAddr → Option SocketAddr → Bool → Option SocketAddr
known_after (Some known) came accepted = Some known
known_after None came true = came
known_after None came false = None

-- this is the sender of the datagram that a receive gave
pub record IsSenderOf {S : Type 0} (receives : Received S) (new : S) (room : List ℕ) (len : ℕ)
    (came : Option SocketAddr) : Type 0 where
  pub from : SocketAddr
  pub came_is : came ≡ Some from
  pub last : S
  pub received : receives last new (Ok (Some (len, from))) room

-- .. at this circuit's socket, unless all senders are accepted
abbrev pub SenderAt : {S : Type 0} → Received S → Option (Endpoint S) → List ℕ → ℕ → Option SocketAddr
    → Type 0
SenderAt receives None room len came = ⊤
SenderAt receives (Some e) room len came = e.senders ≢ Any → IsSenderOf receives e.socket room len came

abbrev pub EndpointSender : {S : Type 0} → Received S → ℕ → List (Option (Endpoint S)) → List ℕ → ℕ
    → Option SocketAddr → Type 0
EndpointSender {S} receives c endpoints room len came = (d : Option (Endpoint S))
    → SenderAt receives (slice_index_or endpoints (c - 1) d) room len came
