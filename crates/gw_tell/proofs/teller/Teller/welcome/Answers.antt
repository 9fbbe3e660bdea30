use Rattle.std.proofs.Common.{inr}
use Rattle.gw_tell.proofs.teller.Teller.welcome.Goals as goal

pub returns : goal.returns
returns c = inr record {
  place = c.in-Some.free;
  is_place = c.in-Some.ensures.some.0;
  was_free = c.in-Some.ensures.some.1;
  is = c.of.result;
  shows = c.of.ensures;
  seated = c.seat_at.ensures.seated;
  others = c.seat_at.ensures.others;
  same = c.seat_at.ensures.same;
}
