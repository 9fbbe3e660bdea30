use Rattle.std.proofs.Common.{refl}
unfoldable use Rattle.gw_trunk.specs.Bodies.{to_clients}
use Rattle.gw_trunk.proofs.line.TrunkLine.new.Goals as goal

pub invariant_of-result : goal.invariant_of-result
unfolding to_clients
invariant_of-result g c = record {
  long = refl;
  stands = λ f e. cc;
  told = rw (c.new.ensures.incoming, c.requires.told, c.new-2.ensures.log) refl;
}
