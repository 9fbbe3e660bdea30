-- Octets that no search and no loss reads change no alignment.
use Rattle.std.proofs.Common.{rules, ◌≡◌, ℕ, zero, suc, ◌+◌, ◌-◌, ◌%◌, ◌<◌, ◌≤◌, List, [], ◌∷◌, ◌++◌, length, drop}
use Rattle.std.proofs.Common.{take, get_or, Bool, cond, Option, Some, None, refl, sym, ap, ◌∙◌, subst, arith}
use Rattle.std.proofs.Common.{length-drop, inl, inr}
use Rattle.std.proofs.lemmas.Grind.{common_steps}
use Rattle.g704_framing.proofs.Common.{option_map, slice_index, AllByRecursion, All-from_recursion, cases_lt, le-ltb}
use Rattle.g704_framing.proofs.Common.{and_right, Framing, AlignmentSpan, loss, alignments_from, after_search}
use Rattle.g704_framing.proofs.Common.{after_loss, age_in, last_of, IsFraming, IsRead, IsUpToLoss, AgreeAlong}
use Rattle.g704_framing.proofs.Common.{OthersAreNotRead}
use Rattle.std.proofs.lemmas.List.{ext_get_or, get_or-drop, take-append-drop, length-take-le}
use Rattle.g704_framing.proofs.Moves.{option_map-zero, option_map-suc, same_alignment}
use Rattle.g704_framing.proofs.Turns.{alignments_turns, onto, none_found}
use Rattle.g704_framing.proofs.Settles.{IsNotBefore, loss-not_before, search-from, age-after_loss, age_in-before}
use Rattle.g704_framing.proofs.Settles.{alignments-begin}
use Rattle.g704_framing.proofs.Agrees.{loss-alike}

-- the last octet of a list that has one
pub last_of-at : (b : Option ℕ) (a : List ℕ) (m : ℕ) → length a ≡ suc m → last_of b a ≡ Some (get_or a m 0)
last_of-at b [] m n = absurd (omega arith)
last_of-at b (x ∷ []) zero n = refl
last_of-at b (x ∷ []) (suc m) n = absurd (omega arith)
last_of-at b (x ∷ y ∷ a) zero n = absurd (omega arith)
last_of-at b (x ∷ y ∷ a) (suc m) n = last_of-at (Some x) (y ∷ a) m (omega arith)

-- the octets of a prefix
get_or-take : (l : List ℕ) (k i : ℕ) → i < k → k ≤ length l → get_or (take k l) i 0 ≡ get_or l i 0
get_or-take l k i lt le = grind (arith, common_steps)

-- the octet before a position, if there is one
abbrev before_position : List ℕ → ℕ → Option ℕ
before_position s from = last_of None (take from s)

-- two streams that agree from one octet before a position on, up to an end, as far as they reach
abbrev AgreeOn : List ℕ → List ℕ → ℕ → ℕ → Type 0
AgreeOn s t from end = (n : ℕ) → from ≤ suc n → n < end → n < length s → slice_index s n ≡ slice_index t n

-- then they have the same octet before that position
before-same : (s t : List ℕ) (from end : ℕ) → length s ≡ length t → from ≤ length s → from ≤ end → AgreeOn s t from end
    → before_position s from ≡ before_position t from
before-same s t zero end len le lt agree = refl
before-same s t (suc m) end len le lt agree =
    grind (
      arith,
      last_of-at None (take (suc m) s) m (length-take-le (suc m) s le),
      get_or-take s (suc m) m (omega arith) le,
      get_or-take t (suc m) m (omega arith) (omega arith),
      last_of-at None (take (suc m) t) m (length-take-le (suc m) t (omega arith)),
    )

module _ (f : Framing) (h : IsFraming f) where
  -- a search from a position on is a search of the octets from there
  search-append : (b : Option ℕ) (a r : List ℕ)
      → f.search b (a ++ r) (length a) ≡ option_map (λ k. length a + k) (f.search (last_of b a) r 0)
  search-append b [] r = sym (option_map-zero (f.search b r 0))
  search-append b (x ∷ a) r =
      grind (arith, search-append (Some x) a r, option_map-suc (length a) (f.search (last_of (Some x) a) r 0))

  -- the same, of a position in a stream
  search-drop : (s : List ℕ) (from : ℕ) → from ≤ length s
      → f.search None s from ≡ option_map (λ k. from + k) (f.search (before_position s from) (drop from s) 0)
  search-drop s from le =
      cc (take-append-drop from s, length-take-le from s le, search-append None (take from s) (drop from s))

  -- a search from past the end finds nothing
  search-past : (b : Option ℕ) (s : List ℕ) (from : ℕ) → length s ≤ from → f.search b s from ≡ None
  search-past b [] from le = h.nothing b from
  search-past b (x ∷ s) zero le = absurd (omega arith)
  search-past b (x ∷ s) (suc from) le = grind (arith, search-past (Some x) s from (omega arith))

  -- a search finds the same in streams that agree from the octet before it on
  search-same : (s t : List ℕ) (from : ℕ) → length s ≡ length t → AgreeOn s t from (length s)
      → f.search None s from ≡ f.search None t from
  search-same s t from len agree = elim (cases_lt (length s) from) [
    | inl lt ↦ search-past None s from (omega arith) ∙ sym (search-past None t from (omega arith))
    | inr le ↦
        let rest : drop from s ≡ drop from t
        = ext_get_or 0 (drop from s) (drop from t)
        (length-drop from s ∙ ap (λ n. n - from) len ∙ sym (length-drop from t))
        (grind (arith, common_steps)) in
        search-drop s from le
        ∙ ap (λ b. option_map (λ k. from + k) (f.search b (drop from s) 0))
        (before-same s t from (length s) len le le agree)
        ∙ ap (λ r. option_map (λ k. from + k) (f.search (before_position t from) r 0)) rest
        ∙ sym (search-drop t from (omega arith))
  ]

  -- what is found by an octet of a first part is found whatever follows that part
  prefix_finds : (b : Option ℕ) (c u v : List ℕ) (p : ℕ) (o : Option ℕ) → f.search b c 0 ≡ o
      → f.search b (c ++ u) 0 ≡ Some p
      → p + f.found_at < length c → f.search b (c ++ v) 0 ≡ Some p
  prefix_finds b c u v p o i found lt = search rules

  -- what is found is found by the octets up to the last one that the search needs
  search-prefix : (b : Option ℕ) (r v : List ℕ) (p end : ℕ) → f.search b r 0 ≡ Some p → p + f.found_at < end
      → end ≤ length r
      → take end r ≡ take end v → f.search b v 0 ≡ Some p
  search-prefix b r v p end found lt le same =
      grind (arith, length-take-le end r le, take-append-drop end v, take-append-drop end r)

  -- a position that was counted from further back, counted from its search
  found_from : (from p : ℕ) (o : Option ℕ) → option_map (λ k. from + k) o ≡ Some p → o ≡ Some (p - from)
  found_from from p o e = search rules

  -- a search finds the same in streams that agree from the octet before it to the octet by which it finds
  search-kept : (s t : List ℕ) (from p : ℕ) → length s ≡ length t → f.search None s from ≡ Some p
      → AgreeOn s t from (suc (p + f.found_at)) → f.search None t from ≡ Some p
  search-kept s t from p len found agree = elim (cases_lt (p + f.found_at) (length s)) [
    | inr le ↦ sym (search-same s t from len (λ n ge lt below. agree n ge (omega arith) below)) ∙ found
    | inl within ↦
        let le : from ≤ p = search-from f h None s from p found in
        let end = suc ((p - from) + f.found_at) in
        let is_found : f.search (before_position s from) (drop from s) 0 ≡ Some (p - from)
        = found_from from p (f.search (before_position s from) (drop from s) 0)
        (sym (search-drop s from (omega arith)) ∙ found) in
        let n = length-drop from s in
        let m = length-drop from t in
        let e : length (take end (drop from s)) ≡ end = length-take-le end (drop from s) (omega arith) in
        let e' : length (take end (drop from t)) ≡ end = length-take-le end (drop from t) (omega arith) in
        let same : take end (drop from s) ≡ take end (drop from t)
        = ext_get_or 0 (take end (drop from s)) (take end (drop from t)) (e ∙ sym e')
        (λ i lt. get_or-take (drop from s) end i (omega arith) (omega arith) ∙ get_or-drop from s i 0
        ∙ agree (from + i) (omega arith) (omega arith) (omega arith)
        ∙ sym (get_or-take (drop from t) end i (omega arith) (omega arith) ∙ get_or-drop from t i 0)) in
        let before = before-same s t from (suc (p + f.found_at)) len (omega arith) (omega arith) agree in
        let back : from + (p - from) ≡ p = omega arith in
        search-drop t from (omega arith)
        ∙ ap (option_map (λ k. from + k))
        (search-prefix (before_position t from) (drop from s) (drop from t) (p - from) end
        (ap (λ b. f.search b (drop from s) 0) (sym before) ∙ is_found) (omega arith) (omega arith) same)
        ∙ ap Some back
  ]

  -- an age whole periods from the first octet, or none
  read_if : (c : Bool) (age : ℕ) (o : Option ℕ) → age % f.period ≡ 0 → o ≡ None → IsRead f (cond c (Some age) o)
  read_if c age o e i = search rules

  -- the streams agree at each octet from one before a position on that has no age, or lies whole periods on
  abbrev Same : List ℕ → List ℕ → ℕ → ℕ → List AlignmentSpan → Type 0
  Same s t a from ds =
      (n : ℕ) → from ≤ suc n → n < length s → IsRead f (age_in a ds n) → slice_index s n ≡ slice_index t n

  module _ (s t : List ℕ) (a : ℕ) (le : f.found_at ≤ a) (len : length s ≡ length t) where
    -- the octets read by a search have no age, except the last of them
    search_reads : (p n : ℕ) (o : Option ℕ) → IsNotBefore p o → n < suc (p + f.found_at)
        → IsRead f (age_in a (record { start = p; lost = o } ∷ after_loss f None s o) n)
    search_reads p n o g lt = grind (arith, age-after_loss f h None s a p n o g (omega arith), cases_lt n (p + a))

    -- the octets whole periods from the first one, up to the loss, have such an age or none
    loss_reads : (p k : ℕ) (o : Option ℕ) → k % f.period ≡ 0 → IsUpToLoss (p + k) o
        → IsRead f (age_in a (record { start = p; lost = o } ∷ after_loss f None s o) (p + k))
    unfolding after_loss
    loss_reads p k None e up = grind (arith, common_steps)
    loss_reads p k (Some q) e up = search (rules, age_in-before, alignments-begin, read_if)

    -- so there the streams agree
    agree_along : (p : ℕ) (o : Option ℕ) → Same s t a p (record { start = p; lost = o } ∷ after_loss f None s o)
        → AgreeAlong f s t (record { start = p; lost = o })
    agree_along p o same k e lt up = same (p + k) (omega arith) lt (loss_reads p k o e up)

    -- and the loss is the same
    loss-kept : (p : ℕ) → AgreeAlong f s t (record { start = p; lost = loss f s p }) → loss f s p ≡ loss f t p
    loss-kept p agree = loss-alike f s t p len (grind (arith, common_steps))

    -- after a loss the alignment before it gives no age
    after_lost : (p q n : ℕ) → q ≤ n
        → age_in a (record { start = p; lost = Some q } ∷ alignments_from f None s (suc q)) n
        ≡ age_in a (alignments_from f None s (suc q)) n
    after_lost p q n le' = cc (and_right _ _ (le-ltb n q le'))

    -- what agrees after a loss, by what agrees before it
    same_after : (from p q : ℕ) → from ≤ suc q
        → Same s t a from (record { start = p; lost = Some q } ∷ alignments_from f None s (suc q))
        → Same s t a (suc q) (alignments_from f None s (suc q))
    same_after from p q ge same n le' lt read = grind (arith, after_lost p q n (omega arith))

    -- what the streams have in common from an alignment of the first one on
    abbrev Kept : List AlignmentSpan → ℕ → Type 0
    Kept ds from = (ds ≡ alignments_from f None t from) × AllByRecursion (AgreeAlong f s t) ds

    module _ (ds : List AlignmentSpan)
        (again : (q : ℕ) → ds ≡ alignments_from f None s (suc q) → Same s t a (suc q) ds → Kept ds (suc q)) where
      -- after the loss of an alignment
      keep_after : (from p : ℕ) (o r : Option ℕ) → from ≤ p → IsNotBefore p o → o ≡ r → ds ≡ after_loss f None s o
          → Same s t a from (record { start = p; lost = o } ∷ after_loss f None s o)
          → (ds ≡ after_loss f None t r) × AllByRecursion (AgreeAlong f s t) ds
      unfolding after_loss
      keep_after from p o r ge g e i same = search rules

      -- after a search that found one
      keep_found : (d : AlignmentSpan) (from : ℕ) (o : Option ℕ) → f.search None s from ≡ o
          → d ∷ ds ≡ after_search f None s o
          → Same s t a from (d ∷ ds) → Kept (d ∷ ds) from
      unfolding after_search
      keep_found d from None i e same = cc
      keep_found d from (Some p) i e same =
          let first : d ≡ record { start = p; lost = loss f s p } = cc in
          let rest : ds ≡ after_loss f None s (loss f s p) = cc in
          let here : Same s t a from (record { start = p; lost = loss f s p } ∷ after_loss f None s (loss f s p))
          = subst (Same s t a from) e same in
          let ge = search-from f h None s from p i in
          let found : f.search None t from ≡ Some p = search-kept s t from p len i (λ n ge' lt below.
          here n ge' below (search_reads p n (loss f s p) (loss-not_before f h s p) lt)) in
          let along = agree_along p (loss f s p) (λ n ge' below read. here n (omega arith) below read) in
          let lost : loss f s p ≡ loss f t p = loss-kept p along in
          let others = keep_after from p (loss f s p) (loss f t p) ge (loss-not_before f h s p) lost rest here in
          let first_kept : d ≡ record { start = p; lost = loss f t p }
          = first ∙ same_alignment p p (loss f s p) (loss f t p) refl lost in
          let rest_kept = others.0 in
          let kept : d ∷ ds ≡ onto (record { start = p; lost = loss f t p }) (after_loss f None t (loss f t p))
          = cc in (grind (arith, alignments_turns f h None t from))

    -- if nothing is found there is no alignment
    nothing_after : [] ≡ after_search f None t None
    unfolding after_search
    nothing_after = refl

    -- from any position on, by the alignments of the first stream
    keep : (ds : List AlignmentSpan) (from : ℕ) → ds ≡ alignments_from f None s from → Same s t a from ds
        → Kept ds from
    keep [] from e same = search (rules, none_found, alignments_turns, search-same, nothing_after)
    keep (d ∷ ds) from e same =
        keep_found ds (λ q i same'. keep ds (suc q) i same') d from (f.search None s from) refl
        (e ∙ alignments_turns f h None s from) same

-- the law
pub others_are_not_read : OthersAreNotRead
others_are_not_read f h s t a le len same =
    let kept = keep f h s t a le len (alignments_from f None s 0) 0 refl (λ n ge lt read. same n lt read) in
    (kept.0, All-from_recursion (AgreeAlong f s t) (alignments_from f None s 0) kept.1)
