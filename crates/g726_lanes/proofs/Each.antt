-- What holds of each of eight lanes.
use Rattle.g726_lanes.proofs.Common.{◌≡◌, ◌≢◌, ◌<◌, ℕ, [], ◌∷◌, refl, subst, sym, inl, inr, cases_eq, rules}
use Rattle.g726_lanes.proofs.Common.{each_of_eight, lane, lanes}
use Rattle.std.proofs.Common.{slice_index_or}

-- what holds of the eight, one by one, holds of each
pub each_lane : (P : ℕ → Type 0) → P 0 × (P 1 × (P 2 × (P 3 × (P 4 × (P 5 × (P 6 × (P 7 × Unit {0})))))))
    → (k : ℕ) → k < 8 → P k
each_lane P all h2 h = search rules

-- what holds of one lane and of each other holds of each
pub with_others : (P : ℕ → Type 0) (k : ℕ) → P k → ((j : ℕ) → j < 8 → j ≢ k → P j) → (j : ℕ) → j < 8 → P j
with_others P k own others j h =
    elim (cases_eq j k) [ inl same ↦ subst P (sym same) own | inr other ↦ others j h other ]

-- eight facts, one by one, hold of each lane
pub of_eight : (P : ℕ → Type 0) → P 0 → P 1 → P 2 → P 3 → P 4 → P 5 → P 6 → P 7 → (k : ℕ) → k < 8 → P k
of_eight P a b c d e f g h = each_lane P (each_of_eight a b c d e f g h)

-- a value for each lane, taken from its lane
pub lanes_at : {A : Type 0} (f : ℕ → A) (none : A) (k : ℕ) → k < 8 → slice_index_or (lanes f) k none ≡ f k
lanes_at f none = of_eight (λ k. slice_index_or (lanes f) k none ≡ f k) refl refl refl refl refl refl refl refl

-- one number in all lanes
pub same_lane : (n k : ℕ) → k < 8 → lane (n ∷ n ∷ n ∷ n ∷ n ∷ n ∷ n ∷ n ∷ []) k ≡ n
same_lane n = lanes_at (λ _. n) 0
