-- The addresses of circuits, and the fault if a circuit's socket cannot be opened.
use Rattle.std.specs.Prelude.{◌≡◌, ◌≢◌, ◌-◌, ◌≤◌, ⊤, ℕ, List, Option, IsSomeAnd, slice_index_or}
use Rattle.std.specs.declared.io.ErrorKind as kinds
use Rattle.std.specs.declared.io.ErrorKind.TheVariants as errors
use Rattle.std.specs.declared.net.ip_addr.IpAddr.{IpAddr}
use Rattle.std.specs.declared.net.socket_addr.SocketAddr.{SocketAddr}
use Rattle.std.specs.Net.Grammar.{IsIpText}
use Rattle.std.specs.Net.Socket.{socket_port}
use Rattle.std.specs.Net.ToAddrs.{IsHostAndPort}
use Rattle.gw_config.specs.declared.config.Port.{Port}
use Rattle.gw_udp.specs.declared.udp.OpenFault.{OpenFault}
use Rattle.gw_udp.specs.declared.udp.OpenFault.TheVariants as faults

-- The address has this port. If the text is an IP address, it is that one.
pub record IsAddressOf (host : List ℕ) (port : ℕ) (a : SocketAddr) : Type 0 where
  pub port_is : socket_port a ≡ port
  pub ip_is : (ip : IpAddr) → IsIpText host ip → IsHostAndPort host port a

-- the fault of a failed call for a circuit: out of memory if the system said so, otherwise this circuit's
abbrev pub Blames : ℕ → kinds.ErrorKind → OpenFault → Type 0
Blames circuit kind faults.OutOfMemory = kind ≡ errors.OutOfMemory
Blames circuit kind (faults.Socket c) = (c ≡ circuit) × (kind ≢ errors.OutOfMemory)

-- out of memory, or a fault of this circuit
abbrev pub IsFaultOf : ℕ → OpenFault → Type 0
IsFaultOf circuit faults.OutOfMemory = ⊤
IsFaultOf circuit (faults.Socket c) = c ≡ circuit

-- .. of one that has ports
abbrev pub BlamesPorts : List (Option Port) → OpenFault → Type 0
BlamesPorts ports faults.OutOfMemory = ⊤
BlamesPorts ports (faults.Socket circuit) = (1 ≤ circuit) × (circuit ≤ 30)
    × ((d : Option Port) → IsSomeAnd (slice_index_or ports (circuit - 1) d) (λ _. ⊤))
