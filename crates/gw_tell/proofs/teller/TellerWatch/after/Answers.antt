use Rattle.std.proofs.Common.{inl, inr, refl}
use Rattle.gw_tell.proofs.teller.TellerWatch.after.Goals as goal

pub returns-else-is_look : goal.returns-else-is_look
returns-else-is_look c = record {
  behind = c.tell.new.self;
  law_is = c.tell.ensures.law;
  place_is = c.tell.ensures.place;
  tells = c.tell.ensures.changes;
  counted = c.tell.ensures.counted;
  looks = inr (c.is_look.ensures.not _ c.if-is_look.false, refl);
}

pub returns-then-is_look : goal.returns-then-is_look
returns-then-is_look c = record {
  behind = c.tell.new.self;
  law_is = c.tell.ensures.law;
  place_is = c.tell.ensures.place;
  tells = c.tell.ensures.changes;
  counted = c.tell.ensures.counted;
  looks = inl (
    c.is_look.ensures.is _ c.if-is_look.true,
    record {
      heard = c.listen.new.self;
      hears = c.listen.ensures.heard;
      same = c.listen.ensures.same;
      lets_in = c.let_in.ensures;
    },
  );
}
