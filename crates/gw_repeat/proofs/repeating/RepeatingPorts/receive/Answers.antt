use Rattle.std.proofs.Math.Logic.{∥∥₁_map}
use Rattle.gw_records.specs.Ports.{receive_call}
use Rattle.gw_repeat.proofs.Steps.{held_still, receive_quiet, repeated_receive}
use Rattle.gw_repeat.proofs.repeating.RepeatingPorts.receive.Goals as goal

pub invariant_of-self : goal.invariant_of-self
invariant_of-self g c = record {
  thirty = c.args.self.now.thirty;
  memory = c.args.self.now.memory;
  are_held = rw c.received.ensures (held_still c.args.self.now.count c.args.self.now.words
      (receive_call c.args.circuit c.receive-received.result c.receive-received.new.room) c.args.self.now.log.calls
      c.args.self.now.held.items (receive_quiet c.args.circuit c.receive-received.result c.receive-received.new.room)
      c.args.self.now.are_held);
  repeated = ∥∥₁_map c.args.self.now.repeated (λ known. rw c.received.ensures (repeated_receive c.args.self.now.count
      c.args.self.now.words c.args.self.now.log.calls c.args.circuit c.receive-received.result
      c.receive-received.new.room (g.P.Ports.tells c.args.self.now.opened.value).calls
      (g.P.Ports.tells c.args.self.now.ports) (g.P.Ports.tells c.receive-received.new.self)
      known c.receive-received.ensures.receives));
}
