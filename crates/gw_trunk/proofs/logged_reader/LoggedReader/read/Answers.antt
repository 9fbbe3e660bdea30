use Rattle.gw_trunk.proofs.KnownOctets.{gave-more, known-more, gave-kept, known-kept}
use Rattle.gw_trunk.proofs.logged_reader.LoggedReader.read.Goals as goal

pub invariant_of-self : goal.invariant_of-self
invariant_of-self g c = record {
  gave = rw c.append.ensures
      (gave-more _ _ _ _ _ c.args.self.now.gave c.args.self.now.known c.in-Ok.ensures.octets.0);
  known = known-more _ _ _ _ _ c.args.self.now.gave c.args.self.now.known c.in-Ok.ensures.octets.0;
}

pub invariant_of-self-in-Err-1 : goal.invariant_of-self-in-Err-1
invariant_of-self-in-Err-1 g c = record {
  gave = gave-kept _ _ _ _ c.args.self.now.gave c.args.self.now.known c.in-Err.ensures.octets;
  known = known-kept _ _ _ _ c.args.self.now.gave c.args.self.now.known c.in-Err.ensures.octets;
}
