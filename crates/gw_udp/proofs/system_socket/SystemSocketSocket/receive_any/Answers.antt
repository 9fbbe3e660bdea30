use Rattle.std.proofs.Common.{ℕ, List, [], ◌∷◌, Option, Some, None, Result, Ok, Err}
use Rattle.std.specs.Prelude.{⊤}
use Rattle.std.specs.declared.net.socket_addr.SocketAddr.TheVariants.{V4}
use Rattle.std.specs.declared.net.socket_addr.SocketAddr.{SocketAddr}
use Rattle.gw_records.specs.declared.ports.PortFault.{PortFault}
use Rattle.gw_udp.specs.Socket.{ReceivesAny}
use Rattle.gw_udp.specs.declared.system_socket.SystemSocket.{SystemSocket}
use Rattle.gw_udp.proofs.system_socket.SystemSocketSocket.receive_any.Goals as goal

-- an address, since a datagram has a sender
abbrev some_sender : SocketAddr
some_sender = V4 (record { ip = record { octets = 0 ∷ 0 ∷ 0 ∷ 0 ∷ [] }; port = 0 })

-- the system may give any answer
any_answer : (old new : SystemSocket) (r : Result (Option ℕ) PortFault) (room : List ℕ)
    → ReceivesAny (λ _ _ _ _. ⊤) old new r room
any_answer old new (Ok (Some len)) room = (some_sender, tt)
any_answer old new (Ok None) room = tt
any_answer old new (Err e) room = tt

pub returns-clause-receives : goal.returns-clause-receives
returns-clause-receives c = any_answer c.args.self.now c.args.self.now c.received.result c.recv.new.buf
