use Rattle.std.proofs.Common.{arith}
use Rattle.std.proofs.lemmas.List.{take_rest}
use Rattle.gw_trunk.proofs.Passing.{given-more, went-more}
use Rattle.gw_trunk.proofs.sink.put_all.Goals as goal

pub putting-preserved : goal.putting-preserved
putting-preserved g c = record {
  bound = omega (arith, c.in-Ok.ensures.bound, c.putting.invariant.bound);
  went = went-more _ _ _ c.args.octets.now c.putting.done c.in-Ok.n c.putting.invariant.went
      (rw (take_rest c.args.octets.now c.putting.done) at c.in-Ok.ensures.went);
  given = λ some. given-more g.O.TrunkOutput.was_given c.args.octets.now c.putting.done _ c.putting.invariant.given
      (rw (take_rest c.args.octets.now c.putting.done) at c.in-Ok.ensures.given);
}
