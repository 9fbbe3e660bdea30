use Rattle.std.proofs.Common.{refl, sym, ◌∙◌}
unfoldable use Rattle.gw_records.specs.Records.{end_of}
use Rattle.gw_trunk.proofs.Standing.{stands-bad, stands-first}
use Rattle.gw_trunk.proofs.line.TrunkLineLine.first.Goals as goal

pub returns-in-Some-clause-good : goal.returns-in-Some-clause-good
returns-in-Some-clause-good g c =
    let s = c.args.self.now in
    stands-first c.args.kinds.now c.in-Some.first s.first s.room c.in-Some.is s.long (s.stands _ c.in-Some.is)
    (sym c.is_accepted.ensures ∙ c.if-is_accepted.true)

pub returns-in-Some-2-clause-end : goal.returns-in-Some-2-clause-end
returns-in-Some-2-clause-end g c =
    let s = c.args.self.now in
    stands-bad c.args.kinds.now c.in-Some.first s.first s.room c.in-Some.is
    (sym c.is_accepted.ensures ∙ c.if-is_accepted.false)

pub returns-in-None-clause-end : goal.returns-in-None-clause-end
unfolding end_of
returns-in-None-clause-end g c = rw c.in-None.is refl
