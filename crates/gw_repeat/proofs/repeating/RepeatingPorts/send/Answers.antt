use Rattle.std.proofs.Common.{◌-◌, arith, length, drop, take_at, slice_index_or}
use Rattle.std.proofs.Math.Logic.{∥∥₁_map}
use Rattle.gw_repeat.proofs.Steps.{held_none, held_more, held_at, one_of, receives_stay, repeated_send, repeated_due}
use Rattle.gw_repeat.proofs.repeating.RepeatingPorts.send.Goals as goal

pub invariant_of-self : goal.invariant_of-self
invariant_of-self g c =
    let was = c.args.self.now.held in
    let held = c.send_due.new.held in
    let same = c.as_mut_slice-held.ensures.value in
    let whole = take_at held (drop (length held) was.items) was.len
    (omega (arith, c.send_due.auto.held, c.as_mut_slice-held.ensures.len)) in
    let one = one_of was.items (omega (arith, c.args.self.now.thirty, was.ok)) in
    record {
      thirty = c.args.self.now.thirty;
      memory = c.args.self.now.memory;
      are_held = rw (c.sent.ensures, whole) (held_more c.args.self.now.count c.args.self.now.words c.args.circuit
          c.args.datagram.now c.send-sent.result c.args.self.now.log.calls was.items held
          c.if-self-gt0.true c.send_due.ensures.in_range.0 c.args.self.now.are_held (rw same at c.send_due.ensures.own)
          c.send_due.ensures.room (rw same at c.send_due.ensures.others));
      repeated = ∥∥₁_map c.args.self.now.repeated (λ known. rw c.sent.ensures (repeated_due c.args.self.now.count
          c.args.self.now.words c.args.self.now.log.calls c.args.circuit c.args.datagram.now c.send-sent.result
          (g.P.Ports.tells c.args.self.now.opened.value).calls (g.P.Ports.tells c.args.self.now.ports)
          (g.P.Ports.tells c.send-sent.new.self) (g.P.Ports.tells c.send_due.new.ports)
          (slice_index_or was.items (c.args.circuit - 1) one)
          c.if-self-gt0.true known
          c.send-sent.ensures.sends
          (held_at c.args.self.now.count c.args.self.now.words c.args.circuit c.args.self.now.log.calls was.items one
          c.send_due.ensures.in_range.0 c.send_due.ensures.in_range.1 c.args.self.now.are_held)
          ((rw same at c.send_due.ensures.sends) one)));
    }

pub invariant_of-self-else-self-gt0 : goal.invariant_of-self-else-self-gt0
invariant_of-self-else-self-gt0 g c = record {
  thirty = c.args.self.now.thirty;
  memory = c.args.self.now.memory;
  are_held = held_none c.args.self.now.count c.args.self.now.words c.args.self.now.log.calls c.sent.new.self.calls
      c.args.self.now.held.items (omega (arith, c.if-self-gt0.false)) c.args.self.now.are_held;
  repeated = ∥∥₁_map c.args.self.now.repeated (λ known. rw c.sent.ensures (repeated_send c.args.self.now.count
      c.args.self.now.words c.args.self.now.log.calls c.args.circuit c.args.datagram.now c.send-sent.result
      (g.P.Ports.tells c.args.self.now.opened.value).calls (g.P.Ports.tells c.args.self.now.ports)
      (g.P.Ports.tells c.send-sent.new.self)
      (omega (arith, c.if-self-gt0.false)) known c.send-sent.ensures.sends));
}

pub returns-then-self-gt0-clause-receives_stay : goal.returns-then-self-gt0-clause-receives_stay
returns-then-self-gt0-clause-receives_stay g c = receives_stay (g.P.Ports.tells c.args.self.now.ports)
    (g.P.Ports.tells c.send-sent.new.self) (g.P.Ports.tells c.send_due.new.ports) 0 0 c.args.self.now.log.calls
    c.sent.new.self.calls c.args.circuit c.args.datagram.now c.send-sent.result c.send-sent.ensures.receives_stay
    ((c.send_due.ensures.sends
    (one_of c.args.self.now.held.items (omega (arith, c.args.self.now.thirty, c.args.self.now.held.ok)))).stays)
    c.sent.ensures
