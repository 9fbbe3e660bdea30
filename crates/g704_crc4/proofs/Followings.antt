-- Submultiframes of a frame alignment, one octet more.
use Rattle.g704_crc4.proofs.Common.{◌≡◌, ℕ, ◌+◌, ◌-◌, ◌*◌, ◌/◌, ◌%◌, ◌<◌, ◌≤◌, Bool, true, false, cond, List, [], ◌∷◌}
use Rattle.g704_crc4.proofs.Common.{◌++◌, length, drop, Option, Some, None, refl, sym, ap, ◌∙◌, arith, inl, inr}
use Rattle.g704_crc4.proofs.Common.{length-drop, nat_le, option_map, ◌==◌, if◌then◌else◌, cases_Bool, cases_eq, eq-eqb}
use Rattle.g704_crc4.proofs.Common.{ne_eqb, false≢true, cases_lt, le-leb, length_push, drop-append-le, take-append-le}
use Rattle.g704_crc4.proofs.Common.{drop_all, Checker, Crc4Event, Block, GivenUp, Received, is_right, event_of}
use Rattle.g704_crc4.proofs.Common.{ChecksAfter, searched_octets, multiframe_in, octets_from, checked_octets}
use Rattle.g704_crc4.proofs.Common.{known_blocks, errored_in, is_excessive, followed, tells_given_up, IsFollowed}
use Rattle.g704_crc4.specs.declared.receiving.SubmultiframeCheck.{SubmultiframeCheck}
use Rattle.g704_crc4.proofs.Blocks.{errored-stays, errored-more, errored-none, block-came, excessive-is}

-- After the 8 ms, later octets do not change where multiframes begin in them.
pub multiframe-stays : (octets : List ℕ) (x : ℕ) → 2112 ≤ length octets
    → multiframe_in (octets ++ x ∷ []) ≡ multiframe_in octets
unfolding multiframe_in searched_octets
multiframe-stays octets x le =
    rw (
      drop-append-le 64 octets (x ∷ []) (omega arith),
      take-append-le 2048 (drop 64 octets) (x ∷ []) (omega (arith, length-drop 64 octets)),
    ) refl

-- The octets that are checked, if a multiframe begins at this double frame.
pub checked-is : (octets : List ℕ) (found : Option ℕ) → multiframe_in octets ≡ found
    → checked_octets octets ≡ octets_from octets found
unfolding checked_octets
checked-is octets found e = ap (octets_from octets) e

-- What is learned of no octets.
pub followed-nothing : (octets : List ℕ) → checked_octets octets ≡ [] → None ≡ followed octets
unfolding followed is_excessive event_of
followed-nothing octets e = rw e refl

-- The event if no thousand has too many errored ones.
pub followed-is : (octets checked : List ℕ) (o : Option Crc4Event) → checked_octets octets ≡ checked
    → is_excessive checked ≡ false → o ≡ event_of checked
    → option_map (λ event. Received event) o ≡ followed octets
unfolding followed
followed-is octets checked o e few is = rw (e, few, is) refl

-- The event if one has.
pub followed-excess : (octets checked : List ℕ) → checked_octets octets ≡ checked → is_excessive checked ≡ true
    → Some GivenUp ≡ followed octets
unfolding followed
followed-excess octets checked e many = rw (e, many) refl

-- Frame alignment is given up by what is learned if a thousand has too many.
pub tells-excess : (octets : List ℕ) → tells_given_up (followed octets) ≡ is_excessive (checked_octets octets)
unfolding followed
tells-excess octets = grind (arith, cases_Bool (is_excessive (checked_octets octets)))

-- What is held, and the next octet of the frame alignment.
module _ (m : SubmultiframeCheck) (octets : List ℕ) (x : ℕ) (s : IsFollowed m octets) where
  -- Where multiframes begin does not change.
  found : multiframe_in (octets ++ x ∷ []) ≡ Some s.number
  found = multiframe-stays octets x s.past ∙ s.found

  -- Before the first octet that is checked there is none.
  pub none-yet : 0 < m.to_come → checked_octets (octets ++ x ∷ []) ≡ []
  none-yet lt = let w = s.waits in
      checked-is (octets ++ x ∷ []) (Some s.number) found
      ∙ drop_all (2112 + 64 * (s.number % 8)) (octets ++ x ∷ []) (omega (arith, length_push octets x))

  -- Nor was there.
  none-before : 0 < m.to_come → checked_octets octets ≡ []
  none-before lt = let w = s.waits in
      checked-is octets (Some s.number) s.found ∙ drop_all (2112 + 64 * (s.number % 8)) octets (omega arith)

  -- From then on each octet is.
  pub one-more : m.to_come ≡ 0 → checked_octets (octets ++ x ∷ []) ≡ checked_octets octets ++ x ∷ []
  one-more e = let w = s.waits in
      checked-is (octets ++ x ∷ []) (Some s.number) found
      ∙ drop-append-le (2112 + 64 * (s.number % 8)) octets (x ∷ []) (omega arith)
      ∙ ap (λ xs. xs ++ x ∷ []) (sym (checked-is octets (Some s.number) s.found))

  -- An octet before the first that is checked.
  pub waits-on : (rest : ℕ) → 0 < m.to_come → rest ≡ m.to_come - 1
      → IsFollowed (record { to_come = rest; checker = m.checker; known = m.known; errored = m.errored })
      (octets ++ x ∷ [])
  waits-on rest lt e = grind (arith, none-before lt, none-yet lt, found, length_push octets x)

  -- What is held with an octet that is checked.
  pub checks-on : (after : SubmultiframeCheck) → m.to_come ≡ 0 → after.to_come ≡ 0
      → ChecksAfter after.checker (checked_octets octets ++ x ∷ [])
      → after.known ≡ known_blocks (checked_octets octets ++ x ∷ []) % 1000
      → after.errored ≡ errored_in (checked_octets octets ++ x ∷ [])
      (1000 * (known_blocks (checked_octets octets ++ x ∷ []) / 1000))
      (known_blocks (checked_octets octets ++ x ∷ []) % 1000)
      → after.errored < 915 → IsFollowed after (octets ++ x ∷ [])
  checks-on after e to checks known errored few = grind (arith, one-more e, found, length_push octets x)

  -- The octets that are checked, and with the octet.
  abbrev d : List ℕ
  d = checked_octets octets

  abbrev e : List ℕ
  e = checked_octets octets ++ x ∷ []

  -- An octet without a known submultiframe.
  pub no-block : (after : SubmultiframeCheck) → m.to_come ≡ 0 → after.to_come ≡ 0 → ChecksAfter after.checker e
      → (length e % 256 ≡ 0 → length e ≤ 256) → after.known ≡ m.known → after.errored ≡ m.errored
      → IsFollowed after (octets ++ x ∷ [])
  no-block after z to checks none known errored =
      let l = length_push d x in
      let same : known_blocks d ≡ known_blocks e = grind (arith, cases_eq (length e % 256) 0) in
      checks-on after z to checks (known ∙ s.known ∙ ap (λ n. n % 1000) same)
      (grind (arith, errored-stays d x (1000 * (known_blocks d / 1000)) (known_blocks d % 1000) (λ lt. omega arith)))
      (let f = s.few in omega arith)

  -- How many of its thousand are errored with one that is known by the octet.
  total : (right : Bool) → Some (Block right) ≡ event_of e
      → errored_in e (1000 * (known_blocks d / 1000)) (known_blocks d % 1000 + 1) ≡ cond right m.errored (m.errored + 1)
  total right is =
      let came = block-came e right is in
      let l = length_push d x in
      let past = came.1 in
      let number : length e / 256 - 2 ≡ known_blocks d = omega arith in
      errored-more e (1000 * (known_blocks d / 1000)) (known_blocks d % 1000) (known_blocks d) (omega arith)
      ∙ ap (λ b. cond b (errored_in e (1000 * (known_blocks d / 1000)) (known_blocks d % 1000))
      (errored_in e (1000 * (known_blocks d / 1000)) (known_blocks d % 1000) + 1))
      (ap (is_right e) (sym number) ∙ sym came.2)
      ∙ ap (λ n. cond right n (n + 1))
      (errored-stays d x (1000 * (known_blocks d / 1000)) (known_blocks d % 1000) (λ lt. omega arith) ∙ sym s.errored)

  -- Whether its thousand has too many with it.
  pub excess-is : (right : Bool) → Some (Block right) ≡ event_of e
      → is_excessive e ≡ nat_le 915 (cond right m.errored (m.errored + 1))
  excess-is right is =
      let came = block-came e right is in
      let l = length_push d x in
      let past = came.1 in
      excessive-is e (known_blocks d) (cond right m.errored (m.errored + 1)) came.0 came.1 (omega arith)
      (total right is)

  -- An octet with one.
  pub block : (after : SubmultiframeCheck) (right : Bool) → m.to_come ≡ 0 → after.to_come ≡ 0
      → ChecksAfter after.checker e
      → Some (Block right) ≡ event_of e → after.known ≡ (m.known + 1) % 1000
      → after.errored ≡ (if after.known == 0 then 0 else cond right m.errored (m.errored + 1))
      → is_excessive e ≡ false → IsFollowed after (octets ++ x ∷ [])
  block after right z to checks is known errored few =
      let came = block-came e right is in
      let l = length_push d x in
      let rest = came.0 in
      let past = came.1 in
      let k = s.known in
      let count : known_blocks e ≡ known_blocks d + 1 = omega arith in
      let below : cond right m.errored (m.errored + 1) < 915 = under _ (sym (excess-is right is) ∙ few) in
      let again : after.known ≡ (known_blocks d + 1) % 1000 = omega arith in
      checks-on after z to checks (again ∙ ap (λ n. n % 1000) (sym count))
      (counted again ∙ ap (λ n. errored_in e (1000 * (n / 1000)) (n % 1000)) (sym count))
      (few_left again below)
    where
      under : (n : ℕ) → nat_le 915 n ≡ false → n < 915
      under n no_more = elim (cases_lt n 915) [
        | inl lt ↦ lt
        | inr ge ↦ absurd (false≢true (sym no_more ∙ le-leb 915 n ge))
      ]

      counted : after.known ≡ (known_blocks d + 1) % 1000
          → after.errored ≡ errored_in e (1000 * ((known_blocks d + 1) / 1000)) ((known_blocks d + 1) % 1000)
      counted k = elim (cases_eq after.known 0) [
        | inl none ↦
            let rest : (known_blocks d + 1) % 1000 ≡ 0 = sym k ∙ none in
            errored ∙ rw (eq-eqb after.known 0 none, rest) (errored-none e _)
        | inr some ↦
            let thousand : (known_blocks d + 1) / 1000 ≡ known_blocks d / 1000 = omega (arith, k, some) in
            let rest : (known_blocks d + 1) % 1000 ≡ known_blocks d % 1000 + 1 = omega (arith, k, some) in
            errored ∙ rw (ne_eqb after.known 0 some, thousand, rest) (sym (total right is))
      ]

      few_left : after.known ≡ (known_blocks d + 1) % 1000 → cond right m.errored (m.errored + 1) < 915
          → after.errored < 915
      few_left k lt = elim (cases_eq after.known 0) [
        | inl none ↦ rw (errored, eq-eqb after.known 0 none) (omega arith)
        | inr some ↦ rw (errored, ne_eqb after.known 0 some) lt
      ]

-- At the end of the 8 ms no octet is checked yet.
pub begins : (octets : List ℕ) (number to_come : ℕ) (checker : Checker) → length octets ≡ 2112
    → multiframe_in octets ≡ Some number → ChecksAfter checker [] → to_come ≡ 64 * (number % 8)
    → IsFollowed (record { to_come = to_come; checker = checker; known = 0; errored = 0 }) octets
begins octets number to_come checker l e checks to =
    grind (
      arith,
      checked-is octets (Some number) e,
      drop_all (2112 + 64 * (number % 8)) octets (omega arith),
      found,
      errored-none [] 0,
    )
