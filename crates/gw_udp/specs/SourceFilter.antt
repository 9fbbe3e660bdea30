-- The senders whose datagrams are accepted.
use Rattle.std.specs.Prelude.{◌≡◌, ⊤, Option, Some, None}
use Rattle.std.specs.declared.net.socket_addr.SocketAddr.{SocketAddr}
use Rattle.std.specs.Net.Socket.{socket_ip, socket_port}
use Rattle.gw_udp.specs.declared.source_filter.SourceFilter.{SourceFilter}
use Rattle.gw_udp.specs.declared.source_filter.SourceFilter.TheVariants.{Any, Host, Peer, First}

-- two senders have one address and one port
abbrev pub IsSameSender : SocketAddr → SocketAddr → Type 0
IsSameSender from other = (socket_ip from ≡ socket_ip other) × (socket_port from ≡ socket_port other)

-- a datagram from an address is accepted, given the peer's, and the sender of the first datagram that the
-- call accepted
abbrev pub IsAccepted : SourceFilter → SocketAddr → Option SocketAddr → SocketAddr → Type 0
IsAccepted Any peer first from = ⊤
IsAccepted Host peer first from = socket_ip from ≡ socket_ip peer
IsAccepted Peer peer first from = IsSameSender from peer
IsAccepted First peer None from = ⊤
IsAccepted First peer (Some known) from = IsSameSender from known
