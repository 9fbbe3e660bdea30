use Rattle.std.proofs.Common.{length, drop, take_at, arith, rules}
use Rattle.std.proofs.Math.Logic.{∥∥₁_map}
use Rattle.gw_udp.proofs.Calls.{called_more, receive_called}
use Rattle.gw_udp.proofs.Looks.{receive_few}
use Rattle.gw_udp.proofs.udp.UdpPortsPorts.receive.Goals as goal

pub invariant_of-self : goal.invariant_of-self
invariant_of-self g c =
    let was = c.args.self.now.endpoints in
    let endpoints = c.receive_more-received.new.endpoints in
    let same = c.as_mut_slice.ensures.value in
    let whole = take_at endpoints (drop (length endpoints) was.items) was.len
    (omega (arith, c.receive_more-received.auto.endpoints, c.as_mut_slice.ensures.len)) in
    record {
      thirty = c.args.self.now.thirty;
      memory = c.args.self.now.memory;
      called = ∥∥₁_map c.args.self.now.called (λ called. rw (c.received.ensures, whole)
          (called_more _ _ _ _ _ _ _ called
          (receive_called _ _ _ c.args.circuit _ _
          c.receive_more-received.result c.receive_more-received.new.room c.receive_more-received.ensures.in_range.0
          (rw same at c.receive_more-received.ensures.own) (rw same at c.receive_more-received.ensures.others))));
      few = λ limited.
          let was = rw c.count.ensures at limited in
          ∥∥₁_map (c.args.self.now.few was) (λ few. rw (c.received.ensures, c.count.ensures)
          (receive_few _ _ _ c.args.circuit _ _ (search rules) c.receive_more-received.ensures.in_range.0
          c.receive_more-received.ensures.in_range.1 c.receive_more-received.ensures.bound
          (λ enough. (c.receive_more-received.ensures.enough (record { limited = was; enough = enough })).0) few));
    }

pub returns-clause-enough : goal.returns-clause-enough
returns-clause-enough g c =
    let was = c.args.self.now.endpoints in
    let endpoints = c.receive_more-received.new.endpoints in
    let same = c.as_mut_slice.ensures.value in
    let whole = take_at endpoints (drop (length endpoints) was.items) was.len
    (omega (arith, c.receive_more-received.auto.endpoints, c.as_mut_slice.ensures.len)) in
    rw whole (rw same at c.receive_more-received.ensures.enough)

pub returns-clause-own : goal.returns-clause-own
returns-clause-own g c =
    let was = c.args.self.now.endpoints in
    let endpoints = c.receive_more-received.new.endpoints in
    let same = c.as_mut_slice.ensures.value in
    let whole = take_at endpoints (drop (length endpoints) was.items) was.len
    (omega (arith, c.receive_more-received.auto.endpoints, c.as_mut_slice.ensures.len)) in
    rw whole (rw same at c.receive_more-received.ensures.own)

pub returns-clause-turn : goal.returns-clause-turn
returns-clause-turn g c =
    let was = c.args.self.now.endpoints in
    let endpoints = c.receive_more-received.new.endpoints in
    let same = c.as_mut_slice.ensures.value in
    let whole = take_at endpoints (drop (length endpoints) was.items) was.len
    (omega (arith, c.receive_more-received.auto.endpoints, c.as_mut_slice.ensures.len)) in
    rw whole (rw same at c.receive_more-received.ensures.turn)

pub returns-clause-sender : goal.returns-clause-sender
returns-clause-sender g c =
    let was = c.args.self.now.endpoints in
    let endpoints = c.receive_more-received.new.endpoints in
    let same = c.as_mut_slice.ensures.value in
    let whole = take_at endpoints (drop (length endpoints) was.items) was.len
    (omega (arith, c.receive_more-received.auto.endpoints, c.as_mut_slice.ensures.len)) in
    rw whole c.receive_more-received.ensures.sender
