use Rattle.std.proofs.Common.{rules, inr, append-nil, ◌≡◌, []}
use Rattle.std.proofs.Math.Logic.{∥∥₁_map}
use Rattle.trunk_filters.proofs.Returned.{passed-more, offered-if}
use Rattle.trunk_filters.proofs.outgoing.FilteredOutputTrunkOutput.write.Goals as goal

pub returns-in_err-give_now-clause-given : goal.returns-in_err-give_now-clause-given
returns-in_err-give_now-clause-given g c = λ more. inr (c.in_err-give_now.ensures.given (search rules))

pub returns-then-not-branch-clause-given : goal.returns-then-not-branch-clause-given
returns-then-not-branch-clause-given g c = λ more. inr (c.in_ok-give_now.ensures.given (search rules))

pub invariant_of-self-2 : goal.invariant_of-self-2
invariant_of-self-2 g c =
    let none : c.give_now.new.held.items ≡ [] = search rules in
    record {
      returned = ∥∥₁_map c.args.self.now.returned (passed-more
          (g.F.PieceFilter.has_returned c.args.self.now.filter)
          (g.F.PieceFilter.has_returned c.pass.new.self) _ _ _ _ _ _ _ _
          c.pass.ensures.stands c.in_ok-give_now.ensures.went none c.append.ensures c.give_now-2.ensures.went);
    }

pub returns-then-is_off-clause-given : goal.returns-then-is_off-clause-given
returns-then-is_off-clause-given g c = λ more.
    inr (c.args.octets.now, rw (c.pass_on.ensures.none, append-nil c.args.octets.now) c.pass_on.ensures.given)

pub returns-clause-given : goal.returns-clause-given
returns-clause-given g c = λ more.
    offered-if (g.F.PieceFilter.may_return_none c.pass.new.self) (g.O.TrunkOutput.was_given c.give_now-2.new.outgoing)
    c.pass.new.returned.items c.give_now-2.new.held.items (λ each. c.pass.ensures.some each (search rules))
    c.give_now-2.ensures.none c.give_now-2.ensures.given
