-- Three multiframes and four, in octets with others before or behind them.
use Rattle.std.proofs.Common.{rules, ◌≡◌, ℕ, suc, ◌+◌, ◌*◌, ◌<◌, List, [], ◌∷◌, ◌++◌, length, Bool, true, false, not}
use Rattle.std.proofs.Common.{Option, Some, None, refl, sym, ap, ◌∙◌, arith}
use Rattle.std.specs.Prelude.{◌&&◌, is_none, nat_lt, slice_index}
use Rattle.std.proofs.lemmas.Bool.{and_parts, and_from, false≢true, not-false, not_from_true, ltb-true, lt-ltb}
use Rattle.std.proofs.lemmas.Bool.Decides.{nat_tests}
use Rattle.std.proofs.lemmas.List.{get_or_append_left, get_or-append-add, length-append}
use Rattle.g704_framing.specs.Least.{least}
use Rattle.g704_framing.proofs.Leasts.{IsLeast, least-is, least_equals}
use Rattle.g704_slots.specs.Search.{is_right, is_whole, is_found}

-- if no number below a limit passes, none of them does
pub none-each : (passes : ℕ → Bool) (limit : ℕ) → is_none (least passes limit) ≡ true
    → (number : ℕ) → number < limit → passes number ≡ false
none-each p n e = go (least p n) (least-is p n) e
  where
    go : (o : Option ℕ) → IsLeast p n o → is_none o ≡ true → (k : ℕ) → k < n → p k ≡ false
    go None l t = l
    go (Some j) l t = absurd (false≢true t)

-- and the other way round
pub each-none : (passes : ℕ → Bool) (limit : ℕ) → ((number : ℕ) → number < limit → passes number ≡ false)
    → is_none (least passes limit) ≡ true
each-none p n h = ap is_none (least_equals p n None h)

-- if one passes, not none does
pub one-some : (passes : ℕ → Bool) (limit number : ℕ) → number < limit → passes number ≡ true
    → is_none (least passes limit) ≡ false
one-some p n k lt e = go (least p n) (least-is p n)
  where
    go : (o : Option ℕ) → IsLeast p n o → is_none o ≡ false
    go None l = absurd (false≢true (sym (l k lt) ∙ e))
    go (Some j) l = refl

-- tests that agree below a limit have the same least
pub least-same : (passes others : ℕ → Bool) (limit : ℕ)
    → ((number : ℕ) → number < limit → passes number ≡ others number) → least passes limit ≡ least others limit
least-same p q n h = sym (least_equals q n (least p n) (go (least p n) (least-is p n)))
  where
    go : (o : Option ℕ) → IsLeast p n o → IsLeast q n o
    go None l = λ k lt. sym (h k lt) ∙ l k lt
    go (Some j) l =
        let below = l.0 in
        (below, sym (h j below) ∙ l.1, λ k lt. sym (h k (omega arith)) ∙ l.2 k lt)

-- two tests in a row agree if each does
pub both-same : (a b c d : Bool) → a ≡ c → b ≡ d → (a && b) ≡ (c && d)
both-same a b c d e f = rw (e, f) refl

-- three multiframes have this many octets, and their octets of slot 16 and the signal behind them are right
pub whole-parts : (octets : List ℕ) (start : ℕ) → is_whole octets start ≡ true
    → (start + 1488 < length octets)
    × ((frame : ℕ) → frame < 49 → is_right frame (slice_index octets (start + 31 * frame)) ≡ true)
unfolding is_whole
whole-parts s k e =
    let both = and_parts (nat_lt (k + 1488) (length s)) _ e in (
      ltb-true (k + 1488) (length s) both.0,
      λ f lt. not-false _ (none-each _ 49 both.1 f lt),
    )

-- and the other way round
pub parts-whole : (octets : List ℕ) (start : ℕ) → start + 1488 < length octets
    → ((frame : ℕ) → frame < 49 → is_right frame (slice_index octets (start + 31 * frame)) ≡ true)
    → is_whole octets start ≡ true
unfolding is_whole
parts-whole s k lt h = search (rules, and_from, lt-ltb, each-none, not_from_true)

-- one octet of slot 16 that is not right is enough
pub not-whole : (octets : List ℕ) (start frame : ℕ) → frame < 49
    → is_right frame (slice_index octets (start + 31 * frame)) ≡ false → is_whole octets start ≡ false
unfolding is_whole
not-whole s k f lt e =
    ap (λ b. nat_lt (k + 1488) (length s) && b) (one-some _ 49 f lt (ap not e)) ∙ last (nat_lt (k + 1488) (length s))
  where
    last : (b : Bool) → (b && false) ≡ false
    last true = refl
    last false = refl

-- later octets change nothing
pub whole-append : (octets rest : List ℕ) (start : ℕ) → start + 1488 < length octets
    → is_whole (octets ++ rest) start ≡ is_whole octets start
unfolding is_whole
whole-append s t k lt = search (rules, length-append, both-same, lt-ltb, least-same, get_or_append_left)

-- nor do others before
pub whole-behind : (before octets : List ℕ) (start : ℕ)
    → is_whole (before ++ octets) (length before + start) ≡ is_whole octets start
unfolding is_whole
whole-behind s t k =
    let same : nat_lt (length s + k + 1488) (length (s ++ t)) ≡ nat_lt (k + 1488) (length t)
    = rw (length-append s t) (grind (arith, nat_tests)) in
    both-same _ _ _ _ same
    (ap is_none (least-same _ _ 49 (λ f less. ap (λ o. not (is_right f o))
    (ap (slice_index (s ++ t)) (sum (length s) k (31 * f)) ∙ get_or-append-add s t (k + 31 * f) 0))))
  where
    sum : (a b c : ℕ) → (a + b) + c ≡ a + (b + c)
    sum a b c = omega arith

-- four multiframes have the last three of them, and no three in another slot since the first
pub found-parts : (octets : List ℕ) (start : ℕ) → is_found octets start ≡ true
    → (is_whole octets (start + 496) ≡ true)
    × ((later : ℕ) → later < 495 → is_whole octets (start + 1 + later) ≡ false)
unfolding is_found
found-parts s k e =
    let both = and_parts (is_whole s (k + 496)) _ e in (both.0, λ j lt. none-each _ 495 both.1 j lt)

-- and the other way round
pub parts-found : (octets : List ℕ) (start : ℕ) → is_whole octets (start + 496) ≡ true
    → ((later : ℕ) → later < 495 → is_whole octets (start + 1 + later) ≡ false) → is_found octets start ≡ true
unfolding is_found
parts-found s k e h = and_from (is_whole s (k + 496)) _ e (each-none _ 495 h)

-- without the last three there are no four
pub not-found : (octets : List ℕ) (start : ℕ) → is_whole octets (start + 496) ≡ false → is_found octets start ≡ false
unfolding is_found
not-found s k e = rw e refl

-- nor with three in another slot
pub not-alone : (octets : List ℕ) (start later : ℕ) → later < 495 → is_whole octets (start + 1 + later) ≡ true
    → is_found octets start ≡ false
unfolding is_found
not-alone s k j lt e =
    ap (λ b. is_whole s (k + 496) && b) (one-some _ 495 j lt e) ∙ last (is_whole s (k + 496))
  where
    last : (b : Bool) → (b && false) ≡ false
    last true = refl
    last false = refl

-- how many octets four have
pub found-within : (octets : List ℕ) (start : ℕ) → is_found octets start ≡ true → start + 1984 < length octets
found-within s k e = grind (arith, (whole-parts s (k + 496) (found-parts s k e).0).0)

-- later octets change nothing
pub found-append : (octets rest : List ℕ) (start : ℕ) → start + 1984 < length octets
    → is_found (octets ++ rest) start ≡ is_found octets start
unfolding is_found
found-append s t k lt = search (rules, both-same, whole-append, least-same)

-- nor do others before
pub found-behind : (before octets : List ℕ) (start : ℕ)
    → is_found (before ++ octets) (length before + start) ≡ is_found octets start
unfolding is_found
found-behind s t k =
    both-same _ _ _ _ (ap (is_whole (s ++ t)) (one (length s) k) ∙ whole-behind s t (k + 496))
    (ap is_none (least-same _ _ 495 (λ j less. ap (is_whole (s ++ t)) (two (length s) k j)
    ∙ whole-behind s t (k + 1 + j))))
  where
    one : (a b : ℕ) → (a + b) + 496 ≡ a + (b + 496)
    one a b = omega arith

    two : (a b c : ℕ) → ((a + b) + 1) + c ≡ a + ((b + 1) + c)
    two a b c = omega arith

-- nor does the number of the first octet
pub found-later : (octet : ℕ) (octets : List ℕ) (start : ℕ)
    → is_found (octet ∷ octets) (suc start) ≡ is_found octets start
found-later x s k = grind (arith, found-behind (x ∷ []) s k)
