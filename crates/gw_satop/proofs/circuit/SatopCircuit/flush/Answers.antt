use Rattle.gw_satop.proofs.circuit.SatopCircuit.flush.Goals as goal

pub invariant_of-self : goal.invariant_of-self
invariant_of-self g c = record {
  plays = rw c.put_out.ensures.went c.args.self.now.plays;
  sends = c.args.self.now.sends;
  counted = c.args.self.now.counted;
}
