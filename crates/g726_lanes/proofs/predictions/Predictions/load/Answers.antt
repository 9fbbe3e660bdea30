use Rattle.g726_lanes.proofs.Common.{rules, ◌≡◌, ◌≢◌, ◌<◌, ◌+◌, ℕ, List, length, get_or, sym, ◌∙◌, refl, true, arith}
use Rattle.g726_lanes.proofs.Common.{each_of_eight, lane, EachLane}
use Rattle.g726_predict.proofs.Saved.{numbered, numbered-saved, saved-words, words-known, are_words}
use Rattle.g726_lanes.specs.declared.predictions.Predictions.TheInside.{Inside}
use Rattle.g726_lanes.proofs.Each.{with_others}
use Rattle.g726_lanes.proofs.PredictionUpdates.{is_in_lane}
use Rattle.g726_lanes.proofs.predictions.Predictions.load.Goals as goal
use Rattle.g726_lanes.proofs.predictions.Predictions.load.Goals.{After-put_lane-18}

-- the words of a row with one more
kept : (new old : List ℕ) {k n : ℕ} → lane new k ≡ n → EachLane (λ j. j ≢ k → lane new j ≡ lane old j)
    → n < 2048 → EachLane (λ j. lane old j < 2048) → EachLane (λ j. lane new j < 2048)
kept new old own others few before = with_others _ _ (rw own few) (λ j h o. rw (others j h o) (before j h))

pub invariant_of-self : goal.invariant_of-self
invariant_of-self c =
    let n = c.numbers-pk1.result.0 in
    let s = c.self.invariant in
    let long : length n ≡ 16 = search rules in
    let all : are_words n ≡ true = rw c.numbers-pk1.ensures.value (saved-words c.args.from.now
    c.numbers-pk1.ensures.fits) in
    let word = λ (i : ℕ) (h : i < 8). words-known n long all (8 + i) (omega arith) (omega arith) in
    each_of_eight
    (kept _ _ c.put_lane-9.ensures.own c.put_lane-9.ensures.others (word 0 (omega arith)) s.0)
    (kept _ _ c.put_lane-10.ensures.own c.put_lane-10.ensures.others (word 1 (omega arith)) s.1.0)
    (kept _ _ c.put_lane-11.ensures.own c.put_lane-11.ensures.others (word 2 (omega arith)) s.1.1.0)
    (kept _ _ c.put_lane-12.ensures.own c.put_lane-12.ensures.others (word 3 (omega arith)) s.1.1.1.0)
    (kept _ _ c.put_lane-13.ensures.own c.put_lane-13.ensures.others (word 4 (omega arith)) s.1.1.1.1.0)
    (kept _ _ c.put_lane-14.ensures.own c.put_lane-14.ensures.others (word 5 (omega arith)) s.1.1.1.1.1.0)
    (kept _ _ c.put_lane-15.ensures.own c.put_lane-15.ensures.others (word 6 (omega arith)) s.1.1.1.1.1.1.0)
    (kept _ _ c.put_lane-16.ensures.own c.put_lane-16.ensures.others (word 7 (omega arith)) s.1.1.1.1.1.1.1.0)

-- what the lanes are then
abbrev new : After-put_lane-18 → Inside
new c = record {
  b1 = c.put_lane.new.numbers;
  b2 = c.put_lane-2.new.numbers;
  b3 = c.put_lane-3.new.numbers;
  b4 = c.put_lane-4.new.numbers;
  b5 = c.put_lane-5.new.numbers;
  b6 = c.put_lane-6.new.numbers;
  a1 = c.put_lane-7.new.numbers;
  a2 = c.put_lane-8.new.numbers;
  dq1 = c.put_lane-9.new.numbers;
  dq2 = c.put_lane-10.new.numbers;
  dq3 = c.put_lane-11.new.numbers;
  dq4 = c.put_lane-12.new.numbers;
  dq5 = c.put_lane-13.new.numbers;
  dq6 = c.put_lane-14.new.numbers;
  sr1 = c.put_lane-15.new.numbers;
  sr2 = c.put_lane-16.new.numbers;
  p1 = c.put_lane-17.new.numbers;
  p2 = c.put_lane-18.new.numbers;
}

pub returns-clause-loaded : goal.returns-clause-loaded
returns-clause-loaded c =
    let n : ℕ → ℕ = λ i. get_or c.numbers-pk1.result.0 i 0 in
    let is : numbered n c.numbers-pk1.result.1 c.numbers-pk1.result.2 ≡ c.args.from.now =
    rw (c.numbers-pk1.ensures.value, c.numbers-pk1.ensures.pk1, c.numbers-pk1.ensures.pk2) (numbered-saved
    c.args.from.now c.numbers-pk1.ensures.fits) in
    is_in_lane (new (goal.at.returns-clause-loaded c).After-put_lane-18) refl c.args.k c.requires ∙
    rw (c.put_lane.ensures.own, c.put_lane-2.ensures.own, c.put_lane-3.ensures.own, c.put_lane-4.ensures.own)
    (rw (c.put_lane-5.ensures.own, c.put_lane-6.ensures.own, c.put_lane-7.ensures.own, c.put_lane-8.ensures.own)
    (rw (c.put_lane-9.ensures.own, c.put_lane-10.ensures.own, c.put_lane-11.ensures.own, c.put_lane-12.ensures.own)
    (rw (c.put_lane-13.ensures.own, c.put_lane-14.ensures.own, c.put_lane-15.ensures.own, c.put_lane-16.ensures.own)
    (rw (c.put_lane-17.ensures.own, c.put_lane-18.ensures.own, c.signed.ensures, c.signed-2.ensures) is))))

pub returns-clause-others : goal.returns-clause-others
returns-clause-others c = λ j h o.
    is_in_lane (new (goal.at.returns-clause-others c).After-put_lane-18) refl j h ∙
    rw (c.put_lane.ensures.others j h o, c.put_lane-2.ensures.others j h o, c.put_lane-3.ensures.others j h o)
    (rw (c.put_lane-4.ensures.others j h o, c.put_lane-5.ensures.others j h o, c.put_lane-6.ensures.others j h o)
    (rw (c.put_lane-7.ensures.others j h o, c.put_lane-8.ensures.others j h o, c.put_lane-9.ensures.others j h o)
    (rw (c.put_lane-10.ensures.others j h o, c.put_lane-11.ensures.others j h o, c.put_lane-12.ensures.others j h o)
    (rw (c.put_lane-13.ensures.others j h o, c.put_lane-14.ensures.others j h o, c.put_lane-15.ensures.others j h o)
    (rw (c.put_lane-16.ensures.others j h o, c.put_lane-17.ensures.others j h o, c.put_lane-18.ensures.others j h o)
    (sym (is_in_lane c.self.inside c.self.view_is j h)))))))
