-- The relations of a datagram socket.
use Rattle.std.specs.Prelude.{ℕ, List, Option, Some, None, Result, Ok, Err}
use Rattle.std.specs.declared.net.socket_addr.SocketAddr.{SocketAddr}
use Rattle.gw_records.specs.declared.ports.PortFault.{PortFault}

-- relates a socket before and after a receive, the answer, and the room afterwards
abbrev pub Received : Type 0 → Type 1
Received S = S → S → Result (Option (ℕ × SocketAddr)) PortFault → List ℕ → Type 0

-- a receive without a sender answers what one with a sender would have answered
abbrev pub ReceivesAny : {S : Type 0} → Received S → S → S → Result (Option ℕ) PortFault → List ℕ → Type 0
ReceivesAny receives old new (Ok (Some len)) room =
    (from : SocketAddr) × receives old new (Ok (Some (len, from))) room
ReceivesAny receives old new (Ok None) room = receives old new (Ok None) room
ReceivesAny receives old new (Err e) room = receives old new (Err e) room

-- relates a socket before and after a send, the destination, the datagram, and the answer
abbrev pub Sent : Type 0 → Type 1
Sent S = S → S → SocketAddr → List ℕ → Result (Unit {0}) PortFault → Type 0
