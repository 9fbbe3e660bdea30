-- Where a rising list passes a number, and how many of its numbers do not.
use Rattle.std.proofs.Common.{◌≡◌, ℕ, zero, suc, ◌<◌, ◌≤◌, ℤ, ◌≤ℤ◌, Bool, true, false, cond, List, [], ◌∷◌, length}
use Rattle.std.proofs.Common.{get_or, arith, refl, ◌∙◌}
use Rattle.std.specs.Int.RustNames.{int_le, int_lt}
use Rattle.std.specs.List.{count_by}
use Rattle.std.specs.List.Sorted.{IsPartitionedBy}
use Rattle.std.proofs.lemmas.Bool.{and_parts}
use Rattle.std.proofs.lemmas.Int.{ints}
use Rattle.std.proofs.lemmas.List.Sums.{sum_by-cons}
use Rattle.g726_quant.specs.Tables.{is_rising_after, is_rising}

-- what the test says
below : (x y : ℤ) → int_lt x y ≡ true → x ≤ℤ y
below x y h = grind (arith, ints)

-- a number is not above one that comes later
rises_after :
    (x : ℤ) (xs : List ℤ) (d : ℤ) (j : ℕ) → is_rising_after x xs ≡ true → j < length xs → x ≤ℤ get_or xs j d
rises_after x [] d j h few = absurd (omega arith)
rises_after x (y ∷ ys) d zero h few = below x y (and_parts _ _ h).0
rises_after x (y ∷ ys) d (suc j) h few =
    let parts = and_parts (int_lt x y) (is_rising_after y ys) h in
    omega (arith, ints, below x y parts.0, rises_after y ys d j parts.1 (omega arith))

-- what is left of rising numbers without the first rises
rest_rises : (x : ℤ) (xs : List ℤ) → is_rising_after x xs ≡ true → is_rising xs ≡ true
rest_rises x [] h = refl
rest_rises x (y ∷ ys) h = (and_parts _ _ h).1

-- of rising numbers none is above a later one
rises :
    (xs : List ℤ) (d : ℤ) (i j : ℕ) → is_rising xs ≡ true → i ≤ j → j < length xs → get_or xs i d ≤ℤ get_or xs j d
rises [] d i j h le few = absurd (omega arith)
rises (x ∷ xs) d zero zero h le few = omega (arith, ints)
rises (x ∷ xs) d zero (suc j) h le few = rises_after x xs d j h (omega arith)
rises (x ∷ xs) d (suc i) zero h le few = absurd (omega arith)
rises (x ∷ xs) d (suc i) (suc j) h le few = rises xs d i j (rest_rises x xs h) (omega arith) (omega arith)

-- a number passes the test if a greater one does
not_above : (x y z : ℤ) → x ≤ℤ y → int_le y z ≡ true → int_le x z ≡ true
not_above x y z h k = grind (arith, ints)

-- of rising numbers those that are not above one come first
pub parted : (xs : List ℤ) (z : ℤ) → is_rising xs ≡ true → IsPartitionedBy (λ x. int_le x z) xs
parted xs z h = λ i j d le few passes. not_above (get_or xs i d) (get_or xs j d) z (rises xs d i j h le few) passes

-- as many pass as come first, if those and no others pass
pub count_first :
    (p : ℤ → Bool) (xs : List ℤ) (i : ℕ) → i ≤ length xs → ((k : ℕ) (d : ℤ) → k < i → p (get_or xs k d) ≡ true) →
    ((k : ℕ) (d : ℤ) → i ≤ k → k < length xs → p (get_or xs k d) ≡ false) → count_by p xs ≡ i
count_first p [] i le first others = omega arith
count_first p (x ∷ xs) zero le first others =
    let rest = count_first p xs zero (omega arith) (λ k d h. absurd (omega arith))
    (λ k d h few. others (suc k) d (omega arith) (omega arith)) in
    sum_by-cons (λ y. cond (p y) 1 0) x xs ∙ rw (others zero x (omega arith) (omega arith), rest) refl
count_first p (x ∷ xs) (suc i) le first others =
    let rest = count_first p xs i (omega arith) (λ k d h. first (suc k) d (omega arith))
    (λ k d h few. others (suc k) d (omega arith) (omega arith)) in
    sum_by-cons (λ y. cond (p y) 1 0) x xs ∙ rw (first zero x (omega arith), rest) (omega arith)
