-- Octets that show nothing, in CRC multiframes, all at once.
use Rattle.g704_crc4.proofs.Common.{◌≡◌, ◌≢◌, ℕ, suc, ◌+◌, ◌/◌, ◌%◌, ◌<◌, ◌≤◌, Bool, false, List, [], ◌∷◌, ◌++◌, length}
use Rattle.g704_crc4.proofs.Common.{rules, None, refl, sym, ap, ◌∙◌, arith, append-nil, append_assoc, length_push}
use Rattle.g704_crc4.proofs.Common.{Checker, Remainder, after_octet, crc_number, remainder_of, sent_bits, submultiframe}
use Rattle.g704_crc4.proofs.Common.{cleared, cleared_at, event_of, nat_le, ChecksAfter, IsFollowed, aligned_octets}
use Rattle.g704_crc4.proofs.Common.{checked_octets, is_excessive, is_given_up, learned, learned_of, parts, times_after}
use Rattle.g704_crc4.proofs.Common.{bit_number, RestartsAfter}
use Rattle.std.specs.Prelude.{is_some}
use Rattle.g704_align.specs.declared.alignment.Place.{Place}
use Rattle.g704_align.specs.declared.alignment.Place.TheVariants.{Hunting, Slot}
use Rattle.g704_align.specs.Placing.{number_of, place}
use Rattle.g704_align.proofs.Callers.{place_append}
use Rattle.g704_align.specs.declared.alignment.Aligner.{Aligner}
use Rattle.g704_align.specs.Aligner as frames
use Rattle.g704_crc4.specs.declared.receiving.MultiframeSync.TheVariants as stages
use Rattle.g704_crc4.specs.declared.receiving.Receiver.{Receiver}
use Rattle.g704_crc4.specs.declared.receiving.SubmultiframeCheck.{SubmultiframeCheck}
use Rattle.g704_crc4.specs.Receivers.{ReceivesAfter}
use Rattle.g704_crc4.specs.Remainder.{after_all}
use Rattle.g704_crc4.specs.States.{IsQuiet}
use Rattle.g704_crc4.proofs.Submultiframes.{after-first, remainder-grows}
use Rattle.g704_crc4.proofs.Checked.{checks-within, bits-kept, none_reported, taken-whole, far-end-event-is, with_octet}
use Rattle.g704_crc4.proofs.Blocks.{none-came, not_excessive}
use Rattle.g704_crc4.proofs.Followings.{followed-is, one-more, no-block}
use Rattle.g704_crc4.proofs.Searched.{long-learned, long-given_up}
use Rattle.g704_crc4.proofs.Alignments.{slot-goes_on}
use Rattle.g704_crc4.proofs.Parts.{part-is, part-kept, learned-is}

-- The remainder of the submultiframe of the octet after these, up to that octet.
abbrev pub running_in : List ℕ → Remainder
running_in h = remainder_of (submultiframe (length h / 256) (cleared h))

-- A checker, and an octet that shows nothing.
module _ (m : Checker) (h : List ℕ) (x : ℕ) (s : ChecksAfter m h) (begun : m.place % 32 ≢ 0)
    (inner : (m.place + 1) % 256 ≢ 0) where
  -- The remainder with the octet.
  grown : with_octet m h x s ≡ after_octet (running_in h) x
  grown = remainder-grows cleared_at h x ∙ ap (after_octet (running_in h)) (sym (taken-whole m h x s begun))

  -- It is that of the octet after it.
  running-more : running_in (h ++ x ∷ []) ≡ after_octet (running_in h) x
  running-more =
      let same : length (h ++ x ∷ []) / 256 ≡ length h / 256 = omega (arith, length_push h x, inner) in
      ap (λ n. remainder_of (submultiframe n (cleared (h ++ x ∷ [])))) same ∙ grown

  -- The place of the next octet is within the submultiframe.
  next-inner : (m.place + 1) % 512 % 256 ≢ 0
  next-inner e = inner (omega (arith, e))

  -- The checker with the octet.
  checks-quiet : ChecksAfter
      (record m { place = (m.place + 1) % 512; running = crc_number (after_octet (running_in h) x) }) (h ++ x ∷ [])
  checks-quiet =
      checks-within m h x s _ _ _ refl (ap crc_number (sym grown)) (bits-kept m h x s begun) next-inner

  -- It learns nothing.
  no-event : None ≡ event_of (h ++ x ∷ [])
  no-event = none_reported m h x s (nat_le 128 x) begun ∙ far-end-event-is m h x s _ refl next-inner

-- A number other than 0 is that of a slot.
is-slot : (p : Place) → 0 < number_of p → (number : ℕ) × (fas : Bool) × (Slot number fas ≡ p)
is-slot Hunting lt = absurd (omega arith)
is-slot (Slot number fas) lt = (number, fas, refl)

-- What follows the CRC multiframes of a part of the stream that is not given up.
pub record InMultiframes (following : SubmultiframeCheck) (part : List ℕ) : Type 0 where
  pub past : 2112 < length (aligned_octets part)
  pub follows : IsFollowed following (aligned_octets part)
  pub kept : (position : ℕ) → position < length part → parts.is_lost part position ≡ false

-- An octet of a slot that shows nothing.
module _ (m : SubmultiframeCheck) (part : List ℕ) (x : ℕ) (s : InMultiframes m part)
    (slot : 0 < number_of (place (part ++ x ∷ []) (length part))) (z : m.to_come ≡ 0)
    (begun : m.checker.place % 32 ≢ 0) (inner : (m.checker.place + 1) % 256 ≢ 0) where
  abbrev octets : List ℕ
  octets = aligned_octets part

  abbrev d : List ℕ
  d = checked_octets (aligned_octets part)

  -- It goes on with the alignment.
  on : aligned_octets (part ++ x ∷ []) ≡ octets ++ x ∷ []
  on = search (rules, is-slot, slot-goes_on)

  -- It is checked.
  checked : checked_octets (octets ++ x ∷ []) ≡ d ++ x ∷ []
  checked = one-more m octets x s.follows z

  -- Nothing is learned of submultiframes.
  event : None ≡ event_of (d ++ x ∷ [])
  event = no-event m.checker d x s.follows.checks begun inner

  -- None is known by it.
  none : length (d ++ x ∷ []) % 256 ≡ 0 → length (d ++ x ∷ []) ≤ 256
  none = none-came (d ++ x ∷ []) None event (λ right e. cc)

  few : is_excessive (d ++ x ∷ []) ≡ false
  few = not_excessive (d ++ x ∷ []) none

  -- Nor anything else.
  nothing : None ≡ learned_of (aligned_octets part) (aligned_octets (part ++ x ∷ []))
  nothing = rw on (followed-is (octets ++ x ∷ []) (d ++ x ∷ []) None checked few event
      ∙ long-learned octets x s.follows.number s.follows.found s.past)

  -- The part goes on.
  up : is_given_up (aligned_octets (part ++ x ∷ [])) ≡ false
  up = search (rules, on, long-given_up, length_push, checked, few)

  -- The checker's remainder.
  running-on : running_in (checked_octets (aligned_octets (part ++ x ∷ []))) ≡ after_octet (running_in d) x
  running-on = ap (λ xs. running_in (checked_octets xs)) on ∙ ap running_in checked
      ∙ running-more m.checker d x s.follows.checks begun inner

  -- What follows the multiframes with the octet.
  abbrev after : SubmultiframeCheck
  after = record m {
    checker = record m.checker {
      place = (m.checker.place + 1) % 512;
      running = crc_number (after_octet (running_in d) x);
    };
  }

  goes-on : InMultiframes after (part ++ x ∷ [])
  goes-on = let past = s.past in record {
    past = rw on (omega (arith, length_push octets x));
    follows = rw on (no-block m octets x s.follows after z z
        (checks-quiet m.checker d x s.follows.checks begun inner) none refl refl);
    kept = part-kept part x s.kept up;
  }

-- An octet by which nothing is learned, and others.
silent-more : (before xs : List ℕ) (x : ℕ) → None ≡ learned before x
    → times_after is_some (before ++ x ∷ []) xs ≡ 0 → times_after is_some before (x ∷ xs) ≡ 0
unfolding times_after
silent-more before xs x e later =
    ap (λ n. bit_number (is_some (learned before x)) + n) later ∙ ap (λ o. bit_number (is_some o) + 0) (sym e)

-- Octets of slots that show nothing.
pub all-quiet : (m : SubmultiframeCheck) (earlier part xs : List ℕ) (left : ℕ) → RestartsAfter parts None earlier
    → InMultiframes m part → ((k : ℕ) → k < length xs → 0 < number_of (place (part ++ xs) (length part + k)))
    → m.to_come ≡ 0 → IsQuiet m.checker.place (length xs)
    → left ≡ crc_number (after_all (running_in (checked_octets (aligned_octets part))) xs)
    → InMultiframes (record m {
      checker = record m.checker { place = (m.checker.place + length xs) % 512; running = left };
    }) (part ++ xs)
    × (times_after is_some (earlier ++ part) xs ≡ 0)
unfolding times_after sent_bits
all-quiet m earlier part [] left over s slots z quiet is = search (rules, append-nil)
all-quiet m earlier part (x ∷ xs) left over s slots z quiet is =
    let begun = quiet.begun (omega arith) in
    let inner : (m.checker.place + 1) % 256 ≢ 0 = λ e. omega (arith, quiet.in_submultiframe, e) in
    let l = length_push part x in
    let here : length part + 0 ≡ length part = omega arith in
    let settled = (place_append (part ++ x ∷ []) xs (length part) (omega arith)).0 in
    let slot = rw (here, ← append_assoc part (x ∷ []) xs, settled) at (slots 0 (omega arith)) in
    let nothing = nothing m part x s slot z begun inner ∙ learned-is (earlier ++ part) part x
    (part-is earlier part over s.kept) in
    let later = all-quiet (after m part x s slot z begun inner) earlier (part ++ x ∷ []) xs left over
    (goes-on m part x s slot z begun inner)
    (λ k lt.
    let next : length part + suc k ≡ length (part ++ x ∷ []) + k = omega arith in
    rw (← append_assoc part (x ∷ []) xs, next) at (slots (suc k) (omega arith)))
    z
    (record {
      begun = λ lt. omega (arith, quiet.in_frame, begun, lt);
      in_frame = omega (arith, quiet.in_frame, begun);
      in_submultiframe = omega (arith, quiet.in_submultiframe);
    })
    (is ∙ ap crc_number (after-first (running_in (checked_octets (aligned_octets part))) x xs
    ∙ ap (λ r. after_all r xs) (sym (running-on m part x s slot z begun inner)))) in
    let same : ((m.checker.place + 1) % 512 + length xs) % 512 ≡ (m.checker.place + suc (length xs)) % 512
    = omega arith in (
      rw (← append_assoc part (x ∷ []) xs, ← same) later.0,
      silent-more (earlier ++ part) xs x nothing (rw (append_assoc earlier part (x ∷ [])) later.1),
    )

-- The receiver after them.
pub received-rest : (r : Receiver) (aligner : Aligner) (m : SubmultiframeCheck) (checker : Checker)
    (history xs : List ℕ) (h : ReceivesAfter r history) → r.stage ≡ stages.SubmultiframeCheck m → m.to_come ≡ 0
    → frames.HasHistory aligner (h.since ++ xs)
    → ((k : ℕ) → k < length xs → 0 < number_of (place (h.since ++ xs) (length h.since + k)))
    → IsQuiet m.checker.place (length xs)
    → checker ≡ record m.checker { place = (m.checker.place + length xs) % 512; running = checker.running }
    → ((left : Remainder) → m.checker.running ≡ crc_number left → checker.running ≡ crc_number (after_all left xs))
    → ReceivesAfter (record {
      aligner = aligner;
      stage = stages.SubmultiframeCheck (record m { checker = checker });
      searched = r.searched;
    }) (history ++ xs)
    × (times_after is_some history xs ≡ 0)
received-rest r aligner m checker history xs h at z aligned slots quiet checks running =
    let f = h.fields in
    let stage = rw at at f.stage in
    let later = all-quiet m h.earlier h.since xs checker.running h.over
    (record { past = stage.0; follows = stage.1; kept = f.kept }) slots z quiet (running _ stage.1.checks.running) in
    let follows = rw (← checks) at later.0 in (
      record {
        earlier = h.earlier;
        since = h.since ++ xs;
        whole = ap (λ ys. ys ++ xs) h.whole ∙ append_assoc h.earlier h.since xs;
        over = h.over;
        fields = record {
          aligner = aligned;
          room = f.room;
          stage = (follows.past, follows.follows);
          kept = follows.kept;
        };
      },
      rw h.whole later.1,
    )
