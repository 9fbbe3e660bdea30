-- Submultiframes that are known, and how many are errored.
use Rattle.g704_crc4.proofs.Common.{◌≡◌, ℕ, zero, suc, ◌+◌, ◌-◌, ◌*◌, ◌/◌, ◌%◌, ◌<◌, ◌≤◌, Bool, false, cond, List}
use Rattle.g704_crc4.proofs.Common.{rules, common_steps, [], ◌∷◌, ◌++◌, length, Option, Some, refl, ap, arith, nat_le}
use Rattle.g704_crc4.proofs.Common.{cases_eq, cases_lt, eq-eqb, lt-ltb, Crc4Event, Block, check_bits_in, is_right}
use Rattle.g704_crc4.proofs.Common.{event_of, count_in, errored_in, known_blocks, is_excessive}
use Rattle.std.proofs.Common.{not}
use Rattle.g704_crc4.proofs.Received.{si-before, remainder-stays}

-- Tests that agree on these numbers count alike.
count-alike : (p q : ℕ → Bool) (from count : ℕ) → ((k : ℕ) → k < count → p (from + k) ≡ q (from + k))
    → count_in p from count ≡ count_in q from count
unfolding count_in
count-alike p q from zero e = refl
count-alike p q from (suc n) e =
    rw (e n (omega arith), count-alike p q from n (λ k lt. e k (omega arith))) refl

-- A later octet does not change whether a submultiframe is right that is known.
right-stays : (d : List ℕ) (x n : ℕ) → 256 * (n + 2) ≤ length d → is_right (d ++ x ∷ []) n ≡ is_right d n
unfolding is_right check_bits_in
right-stays d x n le = search (rules, remainder-stays, si-before)

-- Nor how many are errored.
pub errored-stays : (d : List ℕ) (x from count : ℕ) → (0 < count → 256 * (from + count + 1) ≤ length d)
    → errored_in (d ++ x ∷ []) from count ≡ errored_in d from count
unfolding errored_in
errored-stays d x from count le =
    count-alike _ _ from count (λ k lt. ap not (right-stays d x (from + k) (omega (arith, le (omega arith)))))

-- One more is known.
pub errored-more : (d : List ℕ) (from count number : ℕ) → from + count ≡ number
    → errored_in d from (count + 1)
    ≡ cond (is_right d number) (errored_in d from count) (errored_in d from count + 1)
unfolding errored_in count_in
errored-more d from count number e = grind (arith, common_steps)

-- None of no numbers is.
pub errored-none : (d : List ℕ) (from : ℕ) → 0 ≡ errored_in d from 0
unfolding errored_in count_in
errored-none d from = refl

-- With the last octet of a submultiframe that has one before it, that one is known.
pub block-comes : (d : List ℕ) → length d % 256 ≡ 0 → 256 < length d
    → event_of d ≡ Some (Block (is_right d (length d / 256 - 2)))
unfolding event_of
block-comes d e lt = rw (eq-eqb (length d % 256) 0 e, lt-ltb 256 (length d) lt) refl

-- Where one is known, the last octet is that of a submultiframe with one before it.
pub block-came : (d : List ℕ) (right : Bool) → Some (Block right) ≡ event_of d
    → (length d % 256 ≡ 0) × (256 < length d) × (right ≡ is_right d (length d / 256 - 2))
unfolding event_of
block-came d right e = grind (arith, common_steps)

-- Where none is, there is no such octet.
pub none-came : (d : List ℕ) (o : Option Crc4Event) → o ≡ event_of d → ((right : Bool) → o ≡ Some (Block right) → ⊥)
    → length d % 256 ≡ 0 → length d ≤ 256
none-came d o e other whole = search (rules, cases_lt, block-comes)

-- Then no thousand has too many.
pub not_excessive : (d : List ℕ) → (length d % 256 ≡ 0 → length d ≤ 256) → is_excessive d ≡ false
unfolding is_excessive
not_excessive d none = grind (arith, cases_eq (length d % 256) 0)

-- With one more that is known, its thousand decides.
pub excessive-is : (d : List ℕ) (known total : ℕ) → length d % 256 ≡ 0 → 256 < length d → known_blocks d - 1 ≡ known
    → errored_in d (1000 * (known / 1000)) (known % 1000 + 1) ≡ total → is_excessive d ≡ nat_le 915 total
unfolding is_excessive
excessive-is d known total whole lt e t =
    rw (eq-eqb (length d % 256) 0 whole, lt-ltb 256 (length d) lt, e, t) refl
