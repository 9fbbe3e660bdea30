-- Slot 16 with nothing but the signal, and signals in error.
use Rattle.std.proofs.Common.{rules, ◌≡◌, ℕ, suc, ◌+◌, ◌-◌, ◌*◌, ◌<◌, ◌≤◌, ◌%◌, List, ◌++◌, length, true, false, not}
use Rattle.std.proofs.Common.{refl, ap, arith}
use Rattle.std.proofs.lemmas.Grind.{common_steps}
use Rattle.std.specs.Prelude.{◌≢◌, ◌&&◌, ◌||◌, is_none, slice_index}
use Rattle.std.proofs.lemmas.Bool.{cases_eq, cases_lt, ne_eqb, and_left, and_right, le-ltb}
use Rattle.std.proofs.lemmas.List.{get_or_append_left}
use Rattle.g704_framing.specs.Least.{least}
use Rattle.g704_cas.specs.Search.{is_mfas}
use Rattle.g704_slots.specs.Loss.{is_only_signal, is_wrong, is_second_in_error}
use Rattle.g704_slots.proofs.Wholes.{least-same}

-- only these octets of slot 16 are looked at
pub is_only_signal-same : (octets others : List ℕ) (signal count : ℕ)
    → ((later : ℕ) → later < count
    → slice_index octets (signal + 31 * suc later) ≡ slice_index others (signal + 31 * suc later))
    → is_only_signal octets signal count ≡ is_only_signal others signal count
unfolding is_only_signal
is_only_signal-same a b s n h = ap is_none (least-same _ _ n (λ j lt. ap (λ o. not (is_mfas o)) (h j lt)))

-- none is nothing else
pub is_only_signal-none : (octets : List ℕ) (signal : ℕ) → is_only_signal octets signal 0 ≡ true
unfolding is_only_signal least
is_only_signal-none a s = refl

-- one more
pub is_only_signal-more : (octets : List ℕ) (signal count : ℕ) → is_only_signal octets signal (suc count)
    ≡ (is_only_signal octets signal count && is_mfas (slice_index octets (signal + 31 * suc count)))
unfolding is_only_signal least
is_only_signal-more a s n = grind (arith, common_steps)

-- later octets change nothing
pub is_only_signal-append : (octets rest : List ℕ) (signal count : ℕ) → signal + 31 * count < length octets
    → is_only_signal (octets ++ rest) signal count ≡ is_only_signal octets signal count
is_only_signal-append c t s n lt =
    is_only_signal-same (c ++ t) c s n (λ j less. get_or_append_left c t 0 (s + 31 * suc j) (omega arith))

-- no octet between the signals is one in error
pub is_wrong-other : (octets : List ℕ) (age : ℕ) → age % 496 ≢ 0 → is_wrong octets age ≡ false
unfolding is_wrong
is_wrong-other a k other = and_left _ _ (ne_eqb (k % 496) 0 other)

-- and a signal is by two causes
pub is_wrong-at : (octets : List ℕ) (age : ℕ) → age % 496 ≡ 0
    → is_wrong octets age ≡ (not (is_mfas (slice_index octets age)) || is_only_signal octets (age - 496) 15)
unfolding is_wrong
is_wrong-at a k e = rw e refl

-- only octets of slot 16 up to it are looked at
pub is_wrong-same : (octets others : List ℕ) (age : ℕ) → 496 ≤ age
    → ((earlier : ℕ) → earlier ≤ age → earlier % 31 ≡ 0 → slice_index octets earlier ≡ slice_index others earlier)
    → is_wrong octets age ≡ is_wrong others age
is_wrong-same a b k ge h = search (rules, cases_eq, is_wrong-other, is_only_signal-same, is_wrong-at)

-- later octets change nothing
pub is_wrong-append : (octets rest : List ℕ) (age : ℕ) → 496 ≤ age → age < length octets
    → is_wrong (octets ++ rest) age ≡ is_wrong octets age
is_wrong-append c t k ge lt =
    is_wrong-same (c ++ t) c k ge (λ j le e. get_or_append_left c t 0 j (omega arith))

-- the first two signals are not the second in error
pub second-early : (octets : List ℕ) (age : ℕ) → age ≤ 496 → is_second_in_error octets age ≡ false
second-early a k le = and_left _ _ (le-ltb 496 k le)

-- nor is an octet between two of them
pub second-other : (octets : List ℕ) (age : ℕ) → is_wrong octets age ≡ false → is_second_in_error octets age ≡ false
second-other a k right = and_right _ _ (and_left _ _ right)

-- whether slot 16 is lost is seen by its octets up to there
pub second-same : (octets others : List ℕ) (age : ℕ)
    → ((earlier : ℕ) → earlier ≤ age → earlier % 31 ≡ 0 → slice_index octets earlier ≡ slice_index others earlier)
    → is_second_in_error octets age ≡ is_second_in_error others age
second-same a b k h = search (rules, cases_eq, second-other, is_wrong-other, cases_lt, second-early, is_wrong-same)
