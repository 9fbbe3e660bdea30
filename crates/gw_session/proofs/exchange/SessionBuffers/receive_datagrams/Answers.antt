use Rattle.gw_session.proofs.Common.{◌≡◌, inr, ◌<◌, ◌++◌, ◌∷◌, [], ap, inl, refl, length, take, arith}
use Rattle.gw_session.proofs.Common.{length-append, Stop, rules}
use Rattle.gw_session.specs.declared.exchange.SessionBuffers.{SessionBuffers}
use Rattle.gw_session.proofs.Turns.{Extends-none}
use Rattle.gw_session.proofs.Receiving.{receiving_none, receiving_more, shown_next, comes_so, comes_nothing}
use Rattle.gw_session.proofs.Taping.{behind_none, behind_more}
use Rattle.gw_session.proofs.Watching.{shown_none}
use Rattle.gw_session.proofs.exchange.SessionBuffers.receive_datagrams.Goals as goal

pub returns-in_default-clause-comes : goal.returns-in_default-clause-comes
returns-in_default-clause-comes g c =
    comes_nothing _ (behind_none _ _ _ c.requires.within) (shown_none _ _ _ _) c.in_default.ensures

pub receiving-init : goal.receiving-init
receiving-init g c = record {
  receiving = ([], refl, receiving_none _ _, behind_none _ _ _ c.requires.within, shown_none _ _ _ _);
  others = refl;
}

pub receiving-preserved : goal.receiving-preserved
receiving-preserved g c =
    let w = c.receiving.invariant.receiving in
    let items = c.receive_datagram.new.room in
    let n = c.in-Ok-Some.n in
    let r = rw c.in-Ok-Some.field-0-is at c.in-Ok-Some.ensures.receives in
    let took = c.take_datagram-code.ensures in
    let all = ap (λ (s : SessionBuffers). s.recorded) took.others in
    rw c.judge_datagram.ensures
    record {
      receiving = (
        w.0 ++ take n items ∷ [],
        omega (arith, w.1, length-append w.0 (take n items ∷ [])),
        receiving_more _ (take n items) w.2 r.0 r.1 r.2 c.in-Ok-Some.ensures.counts
            c.receive_datagram.ensures.sends_stay took.given took.dropped refl,
        behind_more _ _ _ _ _ _ _ _ _ w.0 _ w.3 refl all took.batches,
        shown_next w.0 (take n items) w.2 w.4 took.shown,
      );
      others = search rules;
    }

pub returns-in-Ok-None-clause-comes : goal.returns-in-Ok-None-clause-comes
returns-in-Ok-None-clause-comes g c =
    let w = c.receiving.invariant.receiving in
    let few : length w.0 < 4 = omega (arith, w.1, c.receiving-test.true) in
    let r = rw c.in-Ok-None.field-0-is at c.in-Ok-None.ensures.receives in
    comes_so _ _ 0 w.2 w.3 w.4 c.in-Some.is c.next_slot.ensures (omega (arith, few)) Stop.NoneLeft few r.0 r.3
    c.in-Ok-None.ensures.counts c.receive_datagram.ensures.sends_stay refl (λ none. (r.1, inr r.2))

pub returns-in-Err-clause-comes : goal.returns-in-Err-clause-comes
returns-in-Err-clause-comes g c =
    let w = c.receiving.invariant.receiving in
    let few : length w.0 < 4 = omega (arith, w.1, c.receiving-test.true) in
    let r = c.in-Err.ensures.receives in
    comes_so _ _ 1 w.2 w.3 w.4 c.in-Some.is c.next_slot.ensures (omega (arith, few)) Stop.Failure few r.0 r.1
    c.in-Err.ensures.counts c.receive_datagram.ensures.sends_stay c.saturating_add-self.ensures
    (λ none. absurd (omega (arith, none)))

pub returns-clause-comes : goal.returns-clause-comes
returns-clause-comes g c =
    let w = c.receiving.invariant.receiving in
    let four : length w.0 ≡ 4 = omega (arith, w.1, c.receiving-test.false) in
    comes_so _ _ 0 w.2 w.3 w.4 c.in-Some.is c.next_slot.ensures (omega (arith, w.1)) Stop.Enough four refl
    (Extends-none _) refl (refl, refl, refl) refl (λ none. (refl, inl four))
