use Rattle.std.proofs.Common.{◌∙◌, arith, inl, inr, refl, sym}
use Rattle.gw_trunk.proofs.Standing.{none-held, room-ends, room-failed, room-filled}
use Rattle.gw_trunk.proofs.line.TrunkLineLine.read_on.Goals as goal

pub returns-then-self-eq0-clause-fault : goal.returns-then-self-eq0-clause-fault
returns-then-self-eq0-clause-fault g c =
    let s = c.args.self.now in
    let none = sym c.is_some.ensures ∙ c.if-is_some.false in
    let held = none-held s.first s.room none in (
      refl,
      room-failed _ _ _ _ _ _ _ _ _ _ c.args._ending refl refl held held
          (room-ends _ s.first s.room _ none c.requires.ends) (inr c.if-self-eq0.true),
    )

pub invariant_of-self : goal.invariant_of-self
invariant_of-self g c = record {
  long = c.next.ensures.len;
  stands = λ f e. rw e at c.in-Ok.ensures.gives.1;
  told = c.next.ensures.told ∙ c.args.self.now.told;
}

pub invariant_of-self-in-Err : goal.invariant_of-self-in-Err
invariant_of-self-in-Err g c = record {
  long = c.next.ensures.len;
  stands = c.args.self.now.stands;
  told = c.next.ensures.told ∙ c.args.self.now.told;
}

pub returns-in-Ok-clause-ok : goal.returns-in-Ok-clause-ok
returns-in-Ok-clause-ok g c =
    let s = c.args.self.now in
    let none = sym c.is_some.ensures ∙ c.if-is_some.false in
    room-filled _ _ _ _ _ _ _ _ c.next.new.room c.in-Ok.got c.args._ending _ c.is_some-in-Ok.ensures
    c.in-Ok.ensures.counts c.in-Ok.ensures.turns c.in-Ok.ensures.gives.0 (none-held s.first s.room none)
    (room-ends _ s.first s.room _ none c.requires.ends) c.if-self-eq0.false c.next.ensures.len c.in-Ok.ensures.gives.1

pub returns-in-Err-clause-fault : goal.returns-in-Err-clause-fault
returns-in-Err-clause-fault g c =
    let s = c.args.self.now in
    let none = sym c.is_some.ensures ∙ c.if-is_some.false in
    let before = none-held s.first s.room none in
    let after = none-held s.first c.next.new.room none in
    let awaited = room-ends _ s.first s.room _ none c.requires.ends in (
      refl,
      room-failed _ _ _ _ _ _ _ _ _ _ c.args._ending c.in-Err.ensures.turns c.in-Err.ensures.gives before after awaited
          (inl (omega (arith, c.in-Err.ensures.counts, c.requires.reads))),
    )
