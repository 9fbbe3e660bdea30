-- The fields of a new line are those of its signalling before any item.
use Rattle.std.proofs.Common.{refl}
use Rattle.q421_line.specs.Signalling.{signalling}
use Rattle.q421_line.proofs.signalling.Line.new.Goals as goal

pub returns : goal.returns
unfolding signalling
returns c = record {
  role_is = refl;
  state_is = refl;
  seized_for_is = refl;
  released_after_is = refl;
  heard = c.new.ensures;
}
