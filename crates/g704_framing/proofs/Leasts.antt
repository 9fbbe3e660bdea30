-- The least number that passes.
use Rattle.std.proofs.Common.{rules, ◌≡◌, ℕ, zero, suc, ◌<◌, Bool, true, false, cond, Option, Some, None, refl, ◌∙◌}
use Rattle.std.proofs.Common.{arith}
use Rattle.g704_framing.proofs.Common.{option_map, nat_le, nat_tests, least}

-- what `least` says: the number, or that none passes
abbrev pub IsLeast : (ℕ → Bool) → ℕ → Option ℕ → Type 0
IsLeast passes limit None = (k : ℕ) → k < limit → passes k ≡ false
IsLeast passes limit (Some n) = (n < limit) × (passes n ≡ true) × ((k : ℕ) → k < n → passes k ≡ false)

-- one number more
step : (passes : ℕ → Bool) (n : ℕ) (o : Option ℕ) → IsLeast passes n o → (b : Bool) → passes n ≡ b
    → IsLeast passes (suc n) (elim o [ Some found ↦ Some found | None ↦ cond b (Some n) None ])
step passes n o h b e = search rules

-- what `least` finds is least
pub least-is : (passes : ℕ → Bool) (limit : ℕ) → IsLeast passes limit (least passes limit)
unfolding least
least-is passes zero = λ k h. absurd (omega arith)
least-is passes (suc n) = step passes n (least passes n) (least-is passes n) (passes n) refl

-- only one answer is least
pub only_one : (passes : ℕ → Bool) (limit : ℕ) (o p : Option ℕ) → IsLeast passes limit o → IsLeast passes limit p
    → o ≡ p
only_one passes limit o p h g = search rules

-- and nothing else is
pub least_equals : (passes : ℕ → Bool) (limit : ℕ) (found : Option ℕ) → IsLeast passes limit found
    → least passes limit ≡ found
least_equals passes limit o h = only_one passes limit (least passes limit) o (least-is passes limit) h

-- what passes up to the least that does, that included; or everything below the limit
abbrev pub reach : Option ℕ → ℕ → ℕ
reach None limit = limit
reach (Some least) limit = suc least

-- two tests that agree as far as the least that passes have the same least
pub least_alike : (passes others : ℕ → Bool) (limit : ℕ) (found : Option ℕ)
    → ((number : ℕ) → number < reach found limit → passes number ≡ others number) → IsLeast passes limit found
    → IsLeast others limit found
least_alike passes others limit found h l = search rules

-- comparing numbers does not depend on their origin
pub le-suc : (small large : ℕ) → nat_le (suc small) (suc large) ≡ nat_le small large
le-suc m n = grind (arith, nat_tests)

-- the least that passes, counted from one further back, if the first number does not pass
pub least-later : (passes others : ℕ → Bool) (limit : ℕ) (found : Option ℕ) → others 0 ≡ false
    → ((number : ℕ) → others (suc number) ≡ passes number) → IsLeast passes limit found
    → IsLeast others (suc limit) (option_map suc found)
least-later passes others n None first rest l = λ k lt. below k lt
  where
    below : (k : ℕ) → k < suc n → others k ≡ false
    below zero lt = first
    below (suc k) lt = rest k ∙ l k (omega arith)
least-later passes others n (Some m) first rest l = (omega (arith, l.0), rest m ∙ l.1, λ k lt. below k lt)
  where
    below : (k : ℕ) → k < suc m → others k ≡ false
    below zero lt = first
    below (suc k) lt = rest k ∙ l.2 k (omega arith)
