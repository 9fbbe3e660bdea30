-- The octets of an alignment among its windows, and its loss.
use Rattle.std.proofs.Common.{rules, ◌≡◌, ℕ, zero, suc, ◌+◌, ◌*◌, ◌-◌, ◌<◌, ◌≤◌, ◌%◌, ◌/◌, List, [], ◌∷◌, ◌++◌, length}
use Rattle.std.proofs.Common.{false, refl, ap, ◌∙◌, arith}
use Rattle.std.specs.Prelude.{slice_index, ◌≢◌}
use Rattle.std.proofs.lemmas.Bool.{eq-eqb, ne_eqb, cases_eq}
use Rattle.g704_align.specs.Loss.{is_third_wrong}
use Rattle.g704_align.proofs.Wrongs.{is_third_wrong-reads}
use Rattle.g704_bits.specs.Loss.{eighths_after, octets_along, is_lost_at}

-- how many they are
length-eighths : (s : List ℕ) (k : ℕ) → k < 8 → length (eighths_after k s) ≡ (length s + 7 - k) / 8
unfolding eighths_after
length-eighths [] k lt = omega arith
length-eighths (w ∷ s) zero lt = let l = length-eighths s 7 (omega arith) in omega arith
length-eighths (w ∷ s) (suc k) lt = let l = length-eighths s k (omega arith) in omega arith

-- the octets of an alignment
pub length-octets : (s : List ℕ) → length (octets_along s) ≡ (length s + 7) / 8
length-octets s = let l = length-eighths s 0 (omega arith) in omega arith

-- their places
eighths-at : (s : List ℕ) (k n : ℕ) → slice_index (eighths_after k s) n ≡ slice_index s (k + 8 * n)
unfolding eighths_after
eighths-at [] k n = refl
eighths-at (w ∷ s) zero zero = refl
eighths-at (w ∷ s) zero (suc n) = grind (arith, eighths-at s 7 n)
eighths-at (w ∷ s) (suc k) n = grind (arith, eighths-at s k n)

-- the octets of an alignment
pub octet-at : (s : List ℕ) (n : ℕ) → slice_index (octets_along s) n ≡ slice_index s (8 * n)
octet-at s n = let at : 0 + 8 * n ≡ 8 * n = omega arith in eighths-at s 0 n ∙ ap (slice_index s) at

-- one window more, at the place of one of them
eighths-push : (s : List ℕ) (x k : ℕ) → k < 8 → length s % 8 ≡ k
    → eighths_after k (s ++ x ∷ []) ≡ eighths_after k s ++ x ∷ []
unfolding eighths_after
eighths-push [] x k lt e = rw (← e) refl
eighths-push (w ∷ s) x zero lt e = ap (λ o. w ∷ o) (eighths-push s x 7 (omega arith) (omega arith))
eighths-push (w ∷ s) x (suc k) lt e = eighths-push s x k (omega arith) (omega arith)

-- and at another
eighths-between : (s : List ℕ) (x k : ℕ) → k < 8 → length s % 8 ≢ k → eighths_after k (s ++ x ∷ []) ≡ eighths_after k s
unfolding eighths_after
eighths-between [] x zero lt ne = absurd (ne refl)
eighths-between [] x (suc k) lt ne = refl
eighths-between (w ∷ s) x zero lt ne =
    ap (λ o. w ∷ o) (eighths-between s x 7 (omega arith) (λ e. ne (omega (arith, e))))
eighths-between (w ∷ s) x (suc k) lt ne = eighths-between s x k (omega arith) (λ e. ne (omega (arith, e)))

-- the window is an octet of the alignment
pub octets-push : (s : List ℕ) (x : ℕ) → length s % 8 ≡ 0 → octets_along (s ++ x ∷ []) ≡ octets_along s ++ x ∷ []
octets-push s x e = eighths-push s x 0 (omega arith) e

-- or lies between two of them
pub octets-between : (s : List ℕ) (x : ℕ) → length s % 8 ≢ 0 → octets_along (s ++ x ∷ []) ≡ octets_along s
octets-between s x ne = eighths-between s x 0 (omega arith) ne

-- an alignment is lost by one of its octets
pub lost-octet : (s : List ℕ) (k : ℕ) → k % 8 ≡ 0 → is_lost_at s k ≡ is_third_wrong (octets_along s) (k / 8)
unfolding is_lost_at
lost-octet s k e = rw (eq-eqb (k % 8) 0 e) refl

-- and by no window between them
pub lost-between : (s : List ℕ) (k : ℕ) → k % 8 ≢ 0 → is_lost_at s k ≡ false
unfolding is_lost_at
lost-between s k ne = rw (ne_eqb (k % 8) 0 ne) refl

-- only the windows whole frames behind the first one decide it
pub lost-reads : (windows others : List ℕ) (k : ℕ)
    → ((j : ℕ) → j ≤ k → j % 256 ≡ 0 → slice_index windows j ≡ slice_index others j)
    → is_lost_at windows k ≡ is_lost_at others k
lost-reads windows others k same = search (rules, cases_eq, lost-between, lost-octet, is_third_wrong-reads, octet-at)
