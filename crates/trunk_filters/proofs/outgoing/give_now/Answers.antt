use Rattle.std.proofs.Common.{arith}
use Rattle.std.proofs.lemmas.Grind.{common_steps}
use Rattle.trunk_filters.proofs.Returned.{took-first}
use Rattle.trunk_filters.proofs.outgoing.give_now.Goals as goal

pub returns-then-is_empty-clause-given : goal.returns-then-is_empty-clause-given
returns-then-is_empty-clause-given g c = λ some.
    took-first (g.O.TrunkOutput.was_given c.write.new.self) _ c.as_slice.result.now _ _ c.drop_first.ensures
    c.write.ensures.given c.as_slice.ensures.value

pub loop-turn-preserved : goal.loop-turn-preserved
loop-turn-preserved g c = record {
  went = grind (arith, common_steps);
  fewer = grind (arith, common_steps);
  waits = grind (arith, common_steps);
  slow = grind (arith, common_steps);
  given = λ some. took-first (g.O.TrunkOutput.was_given c.write.new.self) _ c.as_slice.result.now _ _
      c.drop_first.ensures c.write.ensures.given c.as_slice.ensures.value;
}
