use Rattle.std.proofs.Common.{inr}
use Rattle.std.proofs.Math.Logic.{∥∥₁_map}
use Rattle.gw_satop.proofs.FarEnd.{by_heard, by_none, by_failed}
use Rattle.gw_satop.proofs.peer.UdpPeer.receive.Goals as goal

pub invariant_of-self : goal.invariant_of-self
invariant_of-self g c = record {
  by = ∥∥₁_map c.args.self.now.by (λ by. rw c.datagram.ensures
      (by_heard _ _ _ _ c.receive_any.new.self _ _ c.in-Ok-Some.n c.receive_any.new.room by
      (rw c.in-Ok-Some.field-0-is at c.in-Ok-Some.ensures.receives)));
}

pub invariant_of-self-in-Ok-None : goal.invariant_of-self-in-Ok-None
invariant_of-self-in-Ok-None g c = record {
  by = ∥∥₁_map c.args.self.now.by (λ by. by_none _ _ _ _ c.receive_any.new.self _ _
      c.receive_any.new.room by (rw c.in-Ok-None.field-0-is at c.in-Ok-None.ensures.receives));
}

pub invariant_of-self-in-Err : goal.invariant_of-self-in-Err
invariant_of-self-in-Err g c = record {
  by = ∥∥₁_map c.args.self.now.by (λ by. by_failed _ _ _ _ c.receive_any.new.self _ _ _
      c.receive_any.new.room by c.in-Err.ensures.receives);
}

pub returns-in-Err-clause-none : goal.returns-in-Err-clause-none
returns-in-Err-clause-none g c =
    (c.args.self.now.socket, c.receive_any.new.room, inr (c.in-Err.field-0, c.in-Err.ensures.receives))
