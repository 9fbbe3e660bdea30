-- A receive that asks for no sender.
use Rattle.std.proofs.Common.{ℕ, List, Option, Some, None, Result, Ok, Err, refl, inl, arith}
use Rattle.std.specs.declared.net.socket_addr.SocketAddr.{SocketAddr}
use Rattle.gw_records.specs.declared.ports.PortFault.{PortFault}
use Rattle.gw_udp.specs.declared.source_filter.SourceFilter.TheVariants.{Any}
use Rattle.gw_udp.specs.SourceFilter.{IsAccepted}
use Rattle.gw_udp.specs.Socket.{Received, ReceivesAny}
use Rattle.gw_udp.specs.Udp.{ReceivesFrom}

-- if all senders are accepted, the first datagram is accepted
pub first_of_any : {S : Type 0} (receives : Received S) (peer : SocketAddr) (first : Option SocketAddr)
    (old new : S) (r : Result (Option ℕ) PortFault) (room : List ℕ) → ReceivesAny receives old new r room
    → ReceivesFrom receives (IsAccepted Any peer first) old new r room
first_of_any receives peer first old new (Ok (Some len)) room got = record {
  skipped = 0;
  few = omega arith;
  last = old;
  skips = refl;
  ends = (got.0, got.1, tt);
}
first_of_any receives peer first old new (Ok None) room got = record {
  skipped = 0;
  few = omega arith;
  last = old;
  skips = refl;
  ends = inl got;
}
first_of_any receives peer first old new (Err e) room got = record {
  skipped = 0;
  few = omega arith;
  last = old;
  skips = refl;
  ends = got;
}
