use Rattle.std.proofs.Common.{◌≡◌, refl, take, length, arith}
use Rattle.std.proofs.lemmas.List.{take_all}
use Rattle.std.proofs.Math.Logic.{∥∥₁_map}
use Rattle.gw_satop.proofs.FarEnd.{by_sent}
use Rattle.gw_satop.proofs.peer.UdpPeer.send.Goals as goal

pub invariant_of-self : goal.invariant_of-self
invariant_of-self g c =
    let whole : take (length c.args.datagram.now) c.args.datagram.now ≡ c.args.datagram.now =
    take_all _ _ (omega arith) in
    record {
      by = ∥∥₁_map c.args.self.now.by (λ by. by_sent _ _ _ _ _ _ _ _ _ _ _ by c.send.ensures c.is_ok-taken.ensures.value
          (rw (c.flag.ensures, c.datagram.ensures, whole) refl) (rw (c.flag.ensures, c.datagram.ensures) refl));
    }
