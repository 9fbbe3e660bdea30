-- One octet more, in each phase.
use Rattle.std.proofs.Common.{◌≡◌, ℕ, ◌+◌, ◌-◌, ◌<◌, ◌≤◌, ◌%◌, List, [], ◌∷◌, ◌++◌, length, Bool, true, false, cond}
use Rattle.std.proofs.Common.{Option, Some, None, refl, sym, ◌∙◌, subst, arith, get_or, not, inl, inr, append_assoc}
use Rattle.std.specs.Prelude.{◌≢◌, ◌&&◌, slice_get}
use Rattle.std.proofs.lemmas.Option.{same_Some}
use Rattle.std.proofs.lemmas.List.{get_or_append_left, length_push, get_or_push}
use Rattle.std.proofs.lemmas.Bool.{lt-ltb, le-ltb, eqb-true, not-true, not-false, and_left, and_parts, or_cases}
use Rattle.std.proofs.lemmas.Bool.{cases_lt}
use Rattle.g704_framing.specs.Restart.{RestartsAfter}
use Rattle.g704_framing.proofs.Ends.{RestartsAfter-passed, kept-more, RestartsAfter-lost}
use Rattle.g704_align.specs.Search.{is_fas, is_nfas, search}
use Rattle.g704_align.specs.Loss.{is_wrong, is_third_wrong, frame_alignment}
use Rattle.g704_align.specs.Aligner.{IsCandidate, IsAlignedRun, CountsWrong, wrong_before, count_after, is_refuted}
use Rattle.g704_align.proofs.Wrongs.{is_wrong-append, is_wrong-fas, is_wrong-nfas, is_wrong-early, is_wrong-other}
use Rattle.g704_align.proofs.Searches.{frame_is_framing, slice_get-within, slice_get-at, confirmed-refuted}
use Rattle.g704_align.proofs.Searches.{search-found}

-- an octet that was there before another was added
push_at : (c : List ℕ) (x k : ℕ) → k < length c → get_or (c ++ x ∷ []) k 0 ≡ get_or c k 0
push_at c x k h = get_or_append_left c (x ∷ []) 0 k h

-- an octet that a search meets, and that is no FAS octet
pub RestartsAfter-no_fas : (b : Option ℕ) (x : ℕ) → is_fas x ≡ false → RestartsAfter frame_alignment b (x ∷ [])
unfolding search
RestartsAfter-no_fas b x h = RestartsAfter-passed frame_alignment frame_is_framing b (x ∷ []) (λ t. rw h refl)

-- what an octet says that does not refute a candidate at its third place
right_at_64 : (x age : ℕ) → is_refuted age x ≡ false → age ≡ 64 → is_fas x ≡ true
right_at_64 x age kept e = not-false (is_fas x) (subst (λ a. is_refuted a x ≡ false) e kept)

-- everything restarts after an octet that should be an NFAS octet, and is not
over_no_nfas : (b : Option ℕ) (c : List ℕ) (x : ℕ) → length c ≡ 32 → is_fas (get_or c 0 0) ≡ true → is_nfas x ≡ false
    → RestartsAfter frame_alignment b (c ++ x ∷ [])
unfolding search
over_no_nfas b [] x n h g = absurd (omega arith)
over_no_nfas b (y ∷ c) x n h g = RestartsAfter-passed frame_alignment frame_is_framing b ((y ∷ c) ++ x ∷ []) (λ t.
    let l : length c ≡ 31 = omega arith in
    let m : length (c ++ x ∷ []) ≡ 32 = omega (arith, length_push c x) in
    let e : slice_get (c ++ x ∷ [] ++ t) 31 ≡ Some x = rw (append_assoc c (x ∷ []) t) (rw l at (slice_get-at c x t)) in
    rw (h, e, m) (confirmed-refuted x _ _ _ _ g))

-- or should be the second FAS octet, and is not
over_no_second_fas : (b : Option ℕ) (c : List ℕ) (x : ℕ) → length c ≡ 64 → is_fas (get_or c 0 0) ≡ true
    → is_nfas (get_or c 32 0) ≡ true → is_fas x ≡ false → RestartsAfter frame_alignment b (c ++ x ∷ [])
unfolding search
over_no_second_fas b [] x n h s g = absurd (omega arith)
over_no_second_fas b (y ∷ c) x n h s g = RestartsAfter-passed frame_alignment frame_is_framing b ((y ∷ c) ++ x
    ∷ []) (λ t.
    let l : length c ≡ 63 = omega arith in
    let m : length (c ++ x ∷ []) ≡ 64 = omega (arith, length_push c x) in
    let d : slice_get (c ++ x ∷ [] ++ t) 31 ≡ Some (get_or c 31 0)
    = rw (append_assoc c (x ∷ []) t) (slice_get-within c (x ∷ t) 31 (omega arith)) in
    let e : slice_get (c ++ x ∷ [] ++ t) 63 ≡ Some x = rw (append_assoc c (x ∷ []) t) (rw l at (slice_get-at c x t)) in
    rw (h, d, e, m, s, g) refl)

-- a candidate that is refuted, by its NFAS octet or by its second FAS octet
pub candidate-refuted : (b : Option ℕ) (c : List ℕ) (x age : ℕ) → IsCandidate age c → is_refuted age x ≡ true
    → RestartsAfter frame_alignment b (c ++ x ∷ [])
candidate-refuted b c x age h refuted = elim (or_cases _ _ refuted) [
  | inl nfas ↦
      let parts = and_parts _ _ nfas in
      let at : age ≡ 32 = eqb-true age 32 parts.0 in
      over_no_nfas b c x (h.counted ∙ at) h.fas (not-true (is_nfas x) parts.1)
  | inr fas ↦
      let parts = and_parts _ _ fas in
      let at : age ≡ 64 = eqb-true age 64 parts.0 in
      over_no_second_fas b c x (h.counted ∙ at) h.fas (h.nfas (omega arith)) (not-true (is_fas x) parts.1)
]

-- wrong octets before a place do not depend on later ones
wrong_before-append : (c t : List ℕ) (k : ℕ) → 0 < length c → k < length c + 64
    → wrong_before (c ++ t) k ≡ wrong_before c k
wrong_before-append c t k p h =
    rw (is_wrong-append c t (k - 64) (omega arith), is_wrong-append c t (k - 128) (omega arith)) refl

-- there are none before the first places
wrong_before-early : (c : List ℕ) (k : ℕ) → k ≤ 128 → 0 ≡ wrong_before c k
wrong_before-early c k h = rw (is_wrong-early c (k - 64) (omega arith)) refl

-- nor is there a loss
third-early : (c : List ℕ) (k : ℕ) → k ≤ 64 → is_third_wrong c k ≡ false
third-early c k h = and_left _ _ (is_wrong-early c k h)

-- three octets that confirm one another begin an alignment, with no wrong one
pub alignment-found : (c : List ℕ) → length c ≡ 65 → is_fas (get_or c 0 0) ≡ true → is_nfas (get_or c 32 0) ≡ true
    → is_fas (get_or c 64 0) ≡ true → IsAlignedRun 1 0 0 c
alignment-found c l f n g = record {
  counted = rw l refl;
  found = omega arith;
  fas = f;
  nfas = n;
  confirmed = g;
  kept = λ k lt. third-early c k (omega arith);
  fas_count = λ k ge lt e. wrong_before-early c k (omega arith);
  nfas_count = λ k ge lt e. wrong_before-early c k (omega arith);
}

-- and one that is confirmed
pub candidate-found : (c : List ℕ) (x age : ℕ) → IsCandidate age c → is_refuted age x ≡ false → 64 ≤ age
    → IsAlignedRun 1 0 0 (c ++ x ∷ [])
candidate-found c x age h kept le =
    let n : length c ≡ 64 = (let a = h.counted in let y = h.young in omega arith) in
    let l : length (c ++ x ∷ []) ≡ 65 = omega (arith, length_push c x) in
    alignment-found (c ++ x ∷ []) l (rw (push_at c x 0 (omega arith)) h.fas)
    (rw (push_at c x 32 (omega arith)) (h.nfas (omega arith)))
    (rw (get_or_push c x 0 64 n) (right_at_64 x age kept (omega arith)))

-- a count of wrong octets, past an octet that is none of its kind
counts-other : (c : List ℕ) (x rest count : ℕ) → 0 < length c → CountsWrong rest count c → length c % 64 ≢ rest
    → CountsWrong rest count (c ++ x ∷ [])
counts-other c x rest count p h ne k ge lt e =
    let l = length_push c x in
    h k (omega arith) (omega arith) e ∙ sym (wrong_before-append c (x ∷ []) k p (omega arith))

-- a count below 2, with the octets that it counts
one_more : (a b : Bool) (count : ℕ) → count ≡ cond a (cond b 2 1) 0 → count < 2
    → (count + 1 ≡ cond a 2 1) × ((a && b) ≡ false)
one_more true true count e h = absurd (omega arith)
one_more true false count e h = (omega arith, refl)
one_more false b count e h = (omega arith, refl)

-- the octet is of the kind that is counted
module _ (c : List ℕ) (x rest count : ℕ) (found : 64 < length c) (h : CountsWrong rest count c)
    (r : length c % 64 ≡ rest) where
  -- the octets with the one that was added
  abbrev d : List ℕ
  d = c ++ x ∷ []

  -- the count is that of the octets before the added one
  now : count ≡ wrong_before c (length c)
  now = h (length c) (omega arith) (omega arith) r

  -- the places 64 and 128 before the next one of its kind
  next_place : (k : ℕ) → length d ≤ k → k < length d + 64 → k % 64 ≡ rest
      → (k - 64 ≡ length c) × (k - 128 ≡ length c - 64)
  next_place k ge lt e = let l = length_push c x in (omega arith, omega arith)

  -- whether the added octet is the third wrong one in a row
  third-is : (wrong : Bool) → is_wrong d (length c) ≡ wrong
      → is_third_wrong d (length c) ≡ (wrong && (is_wrong c (length c - 64) && is_wrong c (length c - 128)))
  third-is wrong e =
      cc (
        is_wrong-append c (x ∷ []) (length c - 64) (omega arith),
        is_wrong-append c (x ∷ []) (length c - 128) (omega arith),
      )

  -- the count goes on
  abbrev Counts : ℕ → Type 0
  Counts n = CountsWrong rest n d × (is_third_wrong d (length c) ≡ false)

  -- from 0, if it is right
  counts-right : is_wrong d (length c) ≡ false → Counts 0
  counts-right right = (λ k ge lt e. let n = (next_place k ge lt e).0 in rw (n, right) refl, third-is false right)

  -- one higher, if it is wrong
  counts-wrong : is_wrong d (length c) ≡ true → count < 2 → Counts (count + 1)
  counts-wrong wrong lt2 =
      let one = one_more (is_wrong c (length c - 64)) (is_wrong c (length c - 128)) count now lt2 in (
        λ k ge lt e.
            let n = next_place k ge lt e in
            let n0 = n.0 in let n1 = n.1 in
            rw (n0, n1, wrong, is_wrong-append c (x ∷ []) (length c - 64) (omega arith)) one.0,
        third-is true wrong ∙ one.1,
      )

  -- as `count_after` says
  count-more : (right : Bool) (n : ℕ) → is_wrong d (length c) ≡ not right → Some n ≡ count_after count right → Counts n
  count-more true n wrong e = subst Counts (same_Some 0 n (sym e)) (counts-right wrong)
  count-more false n wrong e = elim (cases_lt count 2) [
    | inr ge ↦ let i = rw (le-ltb count 2 ge) at e in cc
    | inl lt ↦ subst Counts (same_Some (count + 1) n (sym (rw (lt-ltb count 2 lt) at e))) (counts-wrong wrong lt)
  ]

  -- or the alignment is lost
  count-lost : (right : Bool) → is_wrong d (length c) ≡ not right → None ≡ count_after count right
      → is_third_wrong d (length c) ≡ true
  count-lost true wrong e = cc
  count-lost false wrong e = grind (arith, cases_lt count 2, third-is true wrong)

-- an alignment after one octet more
module _ (c : List ℕ) (x age ws wd : ℕ) (h : IsAlignedRun age ws wd c) where
  -- its fields, if it is not lost by the octet
  alignment-more : (ws' wd' : ℕ) → is_third_wrong (c ++ x ∷ []) (length c) ≡ false → CountsWrong 0 ws' (c ++ x ∷ [])
      → CountsWrong 32 wd' (c ++ x ∷ []) → IsAlignedRun ((age + 1) % 64) ws' wd' (c ++ x ∷ [])
  alignment-more ws' wd' third s d = let f = h.found in let l = length_push c x in let a = h.counted in record {
    counted = omega arith;
    found = omega arith;
    fas = rw (push_at c x 0 (omega arith)) h.fas;
    nfas = rw (push_at c x 32 (omega arith)) h.nfas;
    confirmed = rw (push_at c x 64 (omega arith)) h.confirmed;
    kept = kept-more frame_alignment frame_is_framing c x h.kept third;
    fas_count = s;
    nfas_count = d;
  }

  -- everything restarts, if it is
  lost_by : (b : Option ℕ) → is_third_wrong (c ++ x ∷ []) (length c) ≡ true
      → RestartsAfter frame_alignment b (c ++ x ∷ [])
  lost_by b third =
      RestartsAfter-lost frame_alignment frame_is_framing b c x
      (λ t. search-found c t h.found h.fas h.nfas h.confirmed) h.kept third

  -- whether the octet is wrong, if a FAS octet is expected
  wrong-fas : age ≡ 0 → is_wrong (c ++ x ∷ []) (length c) ≡ not (is_fas x)
  wrong-fas e = let a = h.counted in
      rw (is_wrong-fas (c ++ x ∷ []) (length c) h.found (omega arith), get_or_push c x 0 (length c) refl) refl

  -- whether it is, if an NFAS octet is expected
  wrong-nfas : age ≡ 32 → is_wrong (c ++ x ∷ []) (length c) ≡ not (is_nfas x)
  wrong-nfas e = let a = h.counted in
      rw (is_wrong-nfas (c ++ x ∷ []) (length c) h.found (omega arith), get_or_push c x 0 (length c) refl) refl

  -- the age is the place of the octet, counted modulo two frames
  at_rest : (rest : ℕ) → age ≡ rest → length c % 64 ≡ rest
  at_rest rest e = let a = h.counted in omega arith

  -- so it is at no other place
  not_at_rest : (rest : ℕ) → age ≢ rest → length c % 64 ≢ rest
  not_at_rest rest ne e = let a = h.counted in ne (a ∙ e)

  -- there is an octet before it
  begun : 0 < length c
  begun = let f = h.found in omega arith

  -- by the octet of slot 0 of an even frame
  pub fas-more : (n : ℕ) → age ≡ 0 → Some n ≡ count_after ws (is_fas x)
      → IsAlignedRun ((age + 1) % 64) n wd (c ++ x ∷ [])
  fas-more n e counted =
      let r = count-more c x 0 ws h.found h.fas_count (at_rest 0 e) (is_fas x) n (wrong-fas e) counted in
      alignment-more n wd r.1 r.0 (counts-other c x 32 wd begun h.nfas_count (not_at_rest 32 (omega arith)))

  -- it may be the third wrong one
  pub fas-third : age ≡ 0 → None ≡ count_after ws (is_fas x) → is_third_wrong (c ++ x ∷ []) (length c) ≡ true
  fas-third e counted = count-lost c x 0 ws h.found h.fas_count (at_rest 0 e) (is_fas x) (wrong-fas e) counted

  -- and then everything restarts
  pub fas-lost : (b : Option ℕ) → age ≡ 0 → None ≡ count_after ws (is_fas x)
      → RestartsAfter frame_alignment b (c ++ x ∷ [])
  fas-lost b e counted = lost_by b (fas-third e counted)

  -- of an odd frame
  pub nfas-more : (n : ℕ) → age ≡ 32 → Some n ≡ count_after wd (is_nfas x)
      → IsAlignedRun ((age + 1) % 64) ws n (c ++ x ∷ [])
  nfas-more n e counted =
      let r = count-more c x 32 wd h.found h.nfas_count (at_rest 32 e) (is_nfas x) n (wrong-nfas e) counted in
      alignment-more ws n r.1 (counts-other c x 0 ws begun h.fas_count (not_at_rest 0 (omega arith))) r.0

  -- it may be the third wrong one
  pub nfas-third : age ≡ 32 → None ≡ count_after wd (is_nfas x) → is_third_wrong (c ++ x ∷ []) (length c) ≡ true
  nfas-third e counted = count-lost c x 32 wd h.found h.nfas_count (at_rest 32 e) (is_nfas x) (wrong-nfas e) counted

  -- and then everything restarts
  pub nfas-lost : (b : Option ℕ) → age ≡ 32 → None ≡ count_after wd (is_nfas x)
      → RestartsAfter frame_alignment b (c ++ x ∷ [])
  nfas-lost b e counted = lost_by b (nfas-third e counted)

  -- of another slot
  pub other-more : age ≢ 0 → age ≢ 32 → IsAlignedRun ((age + 1) % 64) ws wd (c ++ x ∷ [])
  other-more p q =
      let other : length c % 32 ≢ 0 = omega (arith, not_at_rest 0 p, not_at_rest 32 q) in
      let right = is_wrong-other (c ++ x ∷ []) (length c) other in
      alignment-more ws wd (and_left _ _ right) (counts-other c x 0 ws begun h.fas_count (not_at_rest 0 p))
      (counts-other c x 32 wd begun h.nfas_count (not_at_rest 32 q))

  -- an age is below two frames
  pub age-below : age < 64
  age-below = let a = h.counted in omega arith

  -- an octet between the signals, with the next age as it is computed
  pub between-signals : (next : ℕ) → age % 32 ≢ 0 → (age < 64 → next ≡ (age + 1) % 64)
      → IsAlignedRun next ws wd (c ++ x ∷ [])
  between-signals next between is =
      let zero : age ≢ 0 = λ e. between (omega (arith, e)) in
      let frame : age ≢ 32 = λ e. between (omega (arith, e)) in
      subst (λ a. IsAlignedRun a ws wd (c ++ x ∷ [])) (sym (is age-below)) (other-more zero frame)
