use Rattle.g726_lanes.proofs.Common.{rules, ◌≡◌, ◌<◌, ◌+◌, ℕ, Some, get_or, [], ◌∷◌, sym, ◌∙◌, refl, lane, minus}
use Rattle.g726_lanes.proofs.Common.{predictor}
use Rattle.g726_predict.proofs.Saved.{numbered}
use Rattle.g726_lanes.proofs.Each.{of_eight}
use Rattle.g726_lanes.proofs.PredictionUpdates.{in_lane, is_in_lane}
use Rattle.g726_lanes.proofs.PredictionNumbers.{few-of, numbered-fits, numbers-again, negative_is}
use Rattle.g726_lanes.proofs.predictions.Predictions.store.Goals as goal
use Rattle.g726_lanes.proofs.predictions.Predictions.store.Goals.{After-of_numbers}

-- the numbers in a lane are those of its prediction
stored : (c : After-of_numbers) → c.of_numbers.result ≡ Some (predictor c.args.self.now c.args.k)
stored c =
    let s = c.self.inside in
    let n : ℕ → ℕ = λ i. get_or (c.lane.result ∷ c.lane-2.result ∷ c.lane-3.result ∷ c.lane-4.result ∷
    c.lane-5.result ∷ c.lane-6.result ∷ c.lane-7.result ∷ c.lane-8.result ∷ c.lane-9.result ∷ c.lane-10.result ∷
    c.lane-11.result ∷ c.lane-12.result ∷ c.lane-13.result ∷ c.lane-14.result ∷ c.lane-15.result ∷
    c.lane-16.result ∷ []) i 0 in
    let few : (i : ℕ) → i < 8 → n i < 65536 = few-of c.lane.result c.lane-2.result c.lane-3.result
    c.lane-4.result c.lane-5.result c.lane-6.result c.lane-7.result c.lane-8.result (c.lane-9.result ∷
    c.lane-10.result ∷ c.lane-11.result ∷ c.lane-12.result ∷ c.lane-13.result ∷ c.lane-14.result ∷
    c.lane-15.result ∷ c.lane-16.result ∷ []) (search rules) (search rules) (search rules) (search rules)
    (search rules) (search rules) (search rules) (search rules) in
    let k = c.args.k in
    let h = c.requires in
    let kept = c.self.invariant in
    let words : (i : ℕ) → i < 8 → n (8 + i) < 2048 = of_eight _ (rw c.lane-9.ensures (kept.0 k h))
    (rw c.lane-10.ensures (kept.1.0 k h)) (rw c.lane-11.ensures (kept.1.1.0 k h))
    (rw c.lane-12.ensures (kept.1.1.1.0 k h)) (rw c.lane-13.ensures (kept.1.1.1.1.0 k h))
    (rw c.lane-14.ensures (kept.1.1.1.1.1.0 k h)) (rw c.lane-15.ensures (kept.1.1.1.1.1.1.0 k h))
    (rw c.lane-16.ensures (kept.1.1.1.1.1.1.1.0 k h)) in
    let same : numbered n (minus s.p1 k) (minus s.p2 k) ≡ in_lane s k =
    rw (c.lane.ensures, c.lane-2.ensures, c.lane-3.ensures, c.lane-4.ensures, c.lane-5.ensures, c.lane-6.ensures)
    (rw (c.lane-7.ensures, c.lane-8.ensures, c.lane-9.ensures, c.lane-10.ensures, c.lane-11.ensures)
    (rw (c.lane-12.ensures, c.lane-13.ensures, c.lane-14.ensures, c.lane-15.ensures, c.lane-16.ensures) refl)) in
    let pk1 = minus s.p1 k in
    let pk2 = minus s.p2 k in
    rw (is_in_lane s c.self.view_is k h, ← same) (c.of_numbers.ensures.loaded (numbered n pk1 pk2)
    (numbered-fits n pk1 pk2 few) (numbers-again n pk1 pk2 few words)
    (rw c.lane-17.ensures (negative_is (lane s.p1 k) (rw (← c.lane-17.ensures) (search rules))))
    (rw c.lane-18.ensures (negative_is (lane s.p2 k) (rw (← c.lane-18.ensures) (search rules)))))

pub unwrap-requires : goal.unwrap-requires
unwrap-requires c = rw (stored c) refl

pub returns : goal.returns
returns c = cc (sym (stored (goal.at.returns c).After-of_numbers) ∙ c.unwrap.ensures)
