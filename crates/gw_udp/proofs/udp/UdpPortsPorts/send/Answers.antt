use Rattle.std.proofs.Common.{length, drop, take_at, arith}
use Rattle.std.proofs.Math.Logic.{∥∥₁_map}
use Rattle.gw_udp.proofs.Calls.{called_more, send_called}
use Rattle.gw_udp.proofs.Looks.{nothing_more, send_gives_none}
use Rattle.gw_udp.proofs.udp.UdpPortsPorts.send.Goals as goal

pub invariant_of-self : goal.invariant_of-self
invariant_of-self g c =
    let was = c.args.self.now.endpoints in
    let endpoints = c.send_from-sent.new.endpoints in
    let same = c.as_mut_slice.ensures.value in
    let whole = take_at endpoints (drop (length endpoints) was.items) was.len
    (omega (arith, c.send_from-sent.auto.endpoints, c.as_mut_slice.ensures.len)) in
    record {
      thirty = c.args.self.now.thirty;
      memory = c.args.self.now.memory;
      called = ∥∥₁_map c.args.self.now.called (λ called. rw (c.sent.ensures, whole)
          (called_more _ _ _ _ _ _ _ called
          (send_called _ _ c.args.circuit _ _ c.args.datagram.now c.send_from-sent.result
          c.send_from-sent.ensures.some (rw same at c.send_from-sent.ensures.own)
          (rw same at c.send_from-sent.ensures.others))));
      few = λ limited. ∥∥₁_map (c.args.self.now.few limited) (λ few. rw (c.sent.ensures)
          (nothing_more _ _ _ _ (send_gives_none c.args.circuit c.args.datagram.now c.send_from-sent.result) few));
    }
