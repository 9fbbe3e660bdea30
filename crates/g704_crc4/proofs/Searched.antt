-- What a receiver learns by the octets of a frame alignment, before, at and after the end of the 8 ms.
use Rattle.g704_crc4.proofs.Common.{◌≡◌, ℕ, ◌+◌, ◌*◌, ◌%◌, ◌<◌, ◌≤◌, true, false, List, [], ◌∷◌, ◌++◌, length, drop}
use Rattle.g704_crc4.proofs.Common.{rules, Option, Some, None, refl, sym, ap, ◌∙◌, arith, inl, inr, length-drop, ◌==◌}
use Rattle.g704_crc4.proofs.Common.{eq-eqb, ne_eqb, lt-ltb, le-ltb, and_left, cases_lt, false≢true, length_push}
use Rattle.g704_crc4.proofs.Common.{drop_all, take_all, Found, Lost, begins_multiframe, searched_octets, multiframe_in}
use Rattle.g704_crc4.proofs.Common.{octets_from, checked_octets, is_excessive, is_given_up, followed, learned_of}
use Rattle.g704_framing.proofs.Leasts.{least_equals}
use Rattle.g704_crc4.specs.Aligning.{is_false, is_multiframe_found, has_multiframes}
use Rattle.g704_crc4.proofs.NotFound.{none-past}
use Rattle.g704_crc4.proofs.Blocks.{not_excessive}
use Rattle.g704_crc4.proofs.Followings.{multiframe-stays, checked-is, followed-nothing}

-- Up to the end of the 8 ms no octet is checked.
from-short : (octets : List ℕ) (found : Option ℕ) → length octets ≤ 2112 → octets_from octets found ≡ []
from-short octets None le = refl
from-short octets (Some number) le = drop_all (2112 + 64 * (number % 8)) octets (omega arith)

-- One octet later at most one is.
from-next : (octets : List ℕ) (found : Option ℕ) → length octets ≤ 2113 → length (octets_from octets found) ≤ 1
from-next octets None le = omega arith
from-next octets (Some number) le = omega (arith, length-drop (2112 + 64 * (number % 8)) octets)

-- So none is known to be errored.
pub next-few : (octets : List ℕ) → length octets ≤ 2113 → is_excessive (checked_octets octets) ≡ false
unfolding checked_octets
next-few octets le = search (rules, not_excessive, from-next)

-- Up to the end of the 8 ms there are no multiframes.
short-none : (octets : List ℕ) → length octets ≤ 2112 → has_multiframes octets ≡ false
unfolding has_multiframes
short-none octets le = and_left _ _ (le-ltb 2112 (length octets) le)

-- Nothing is learned.
pub short-learned : (before octets : List ℕ) → length before ≤ 2112 → length octets ≤ 2112
    → None ≡ learned_of before octets
unfolding learned_of is_multiframe_found
short-learned before octets le le' =
    let other : (length octets == 2113) ≡ false = ne_eqb (length octets) 2113 (omega arith) in
    rw (other, short-none before le)
    (followed-nothing octets (checked-is octets (multiframe_in octets) refl
    ∙ from-short octets (multiframe_in octets) le'))

-- And frame alignment is not given up.
pub short-kept : (octets : List ℕ) → length octets ≤ 2112 → is_given_up octets ≡ false
unfolding is_given_up is_false
short-kept octets le = cc (ne_eqb (length octets) 2113 (omega arith), next-few octets (omega arith))

-- Multiframes once found remain after the 8 ms.
stands-after : (octets : List ℕ) (number : ℕ) → multiframe_in octets ≡ Some number → 2112 < length octets
    → has_multiframes octets ≡ true
unfolding has_multiframes
stands-after octets number e lt = rw (lt-ltb 2112 (length octets) lt, e) refl

-- They are lost with frame alignment.
pub lost-learned : (before : List ℕ) (number : ℕ) → multiframe_in before ≡ Some number → 2112 < length before
    → Some Lost ≡ learned_of before []
unfolding learned_of is_multiframe_found
lost-learned before number e lt = cc (short-none [] (omega arith), stands-after before number e lt)

-- From then on the events are those of submultiframes.
pub long-learned : (before : List ℕ) (x number : ℕ) → multiframe_in before ≡ Some number → 2112 < length before
    → followed (before ++ x ∷ []) ≡ learned_of before (before ++ x ∷ [])
unfolding learned_of is_multiframe_found
long-learned before x number e lt = search (rules, length_push, multiframe-stays, ne_eqb, stands-after)

-- Frame alignment is given up then with too many errored ones.
pub long-given_up : (octets : List ℕ) → 2113 < length octets → is_given_up octets ≡ is_excessive (checked_octets octets)
unfolding is_given_up is_false
long-given_up octets lt = cc (ne_eqb (length octets) 2113 (omega arith))

-- The octets of 8 ms are those that are searched.
pub searched-is : (octets searched : List ℕ) → length octets ≡ 2112 → searched ≡ drop 64 octets
    → searched_octets octets ≡ searched
unfolding searched_octets
searched-is octets searched l e =
    take_all 2048 (drop 64 octets) (omega (arith, length-drop 64 octets)) ∙ sym e

-- The first double frame of them at which a multiframe begins.
pub found-is : (octets searched : List ℕ) (number : ℕ) → length octets ≡ 2112 → searched ≡ drop 64 octets
    → begins_multiframe searched (2 * number) ≡ true
    → ((earlier : ℕ) → earlier < number → begins_multiframe searched (2 * earlier) ≡ false)
    → multiframe_in octets ≡ Some number
unfolding multiframe_in
found-is octets searched number l e begins first =
    rw (searched-is octets searched l e)
    (least_equals (λ k. begins_multiframe searched (2 * k)) 32 (Some number) (within, begins, first))
  where
    long : length searched ≡ 2048
    long = ap length e ∙ omega (arith, length-drop 64 octets)

    within : number < 32
    within = elim (cases_lt number 32) [
      | inl lt ↦ lt
      | inr ge ↦ absurd (false≢true (sym (none-past searched number (omega (arith, long))) ∙ begins))
    ]

-- Or there is none.
pub none-is : (octets searched : List ℕ) → length octets ≡ 2112 → searched ≡ drop 64 octets
    → ((number : ℕ) → begins_multiframe searched (2 * number) ≡ false) → multiframe_in octets ≡ None
unfolding multiframe_in
none-is octets searched l e none =
    rw (searched-is octets searched l e)
    (least_equals (λ k. begins_multiframe searched (2 * k)) 32 None (λ k lt. none k))

-- The event of the octet behind the 8 ms, if a multiframe begins in them.
pub found-learned : (octets : List ℕ) (x number : ℕ) → length octets ≡ 2112 → multiframe_in octets ≡ Some number
    → Some Found ≡ learned_of octets (octets ++ x ∷ [])
unfolding learned_of is_multiframe_found
found-learned octets x number l e = search (rules, eq-eqb, length_push, multiframe-stays)

-- Frame alignment is kept.
pub found-kept : (octets : List ℕ) (x number : ℕ) → length octets ≡ 2112 → multiframe_in octets ≡ Some number
    → is_given_up (octets ++ x ∷ []) ≡ false
unfolding is_given_up is_false
found-kept octets x number l e = search (rules, eq-eqb, length_push, multiframe-stays, next-few)

-- Where none begins, nothing is learned.
pub none-learned : (octets : List ℕ) (x : ℕ) → length octets ≡ 2112 → multiframe_in octets ≡ None
    → None ≡ learned_of octets (octets ++ x ∷ [])
unfolding learned_of is_multiframe_found
none-learned octets x l e =
    let none = multiframe-stays octets x (omega arith) ∙ e in
    rw (
      eq-eqb (length (octets ++ x ∷ [])) 2113 (omega (arith, length_push octets x)),
      none,
      short-none octets (omega arith),
    ) (followed-nothing (octets ++ x ∷ []) (checked-is (octets ++ x ∷ []) None none))

-- And frame alignment is given up.
pub none-given_up : (octets : List ℕ) (x : ℕ) → length octets ≡ 2112 → multiframe_in octets ≡ None
    → is_given_up (octets ++ x ∷ []) ≡ true
unfolding is_given_up is_false
none-given_up octets x l e = search (rules, eq-eqb, length_push, multiframe-stays)
