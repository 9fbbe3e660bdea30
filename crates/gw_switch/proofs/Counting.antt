-- Searches for multiframe alignment, counted over the whole trunk.
use Rattle.gw_switch.proofs.Common.{◌≡◌, ℕ, zero, suc, ◌+◌, ◌-◌, ◌<◌, ◌≤◌, Bool, true, false, cond, eqb, List, [], ◌∷◌}
use Rattle.gw_switch.proofs.Common.{rules, common_steps, ◌++◌, length, drop, get_or, Option, Some, None, refl, sym, ap}
use Rattle.gw_switch.proofs.Common.{◌∙◌, arith, append_assoc, append-nil, inl, inr, subst, option_map, cases_Bool}
use Rattle.gw_switch.proofs.Common.{cases_lt, false≢true, get_or-drop, recursion_from_All, All-weaker, alignments_in}
use Rattle.gw_switch.proofs.Common.{IsAlikeAlong, IsAlignedAlike, Place, Hunting, Slot, place, place_alike, multiframes}
use Rattle.gw_switch.proofs.Common.{with_octet, slot16_octets, octets}
use Rattle.std.proofs.Common.{length-append}
use Rattle.std.specs.Prelude.{All}
use Rattle.std.specs.List.{AllByRecursion}
use Rattle.std.proofs.lemmas.Bool.{and_left, lt-leb}
use Rattle.std.proofs.lemmas.Option.{same_Some}
use Rattle.g704_framing.specs.Least.{least}
use Rattle.g704_framing.specs.Alignment.{AlignmentSpan, loss, alignments_from, after_search, after_loss, search_ends_of}
use Rattle.g704_framing.specs.Age.{age_in}
use Rattle.g704_framing.specs.Laws.{IsLostAlike}
use Rattle.g704_framing.proofs.Leasts.{IsLeast, least-is}
use Rattle.g704_framing.proofs.Turns.{alignments_turns}
use Rattle.g704_framing.proofs.Moves.{same_alignment}
use Rattle.g704_framing.proofs.Agrees.{loss-alike, up_to_loss-earlier}
use Rattle.g704_framing.proofs.Settles.{ages_are_settled, search-from, loss-not_before, age-after_loss}
use Rattle.g704_cas.specs.Loss.{is_second_wrong, multiframe_alignment}
use Rattle.g704_cas.proofs.LeastSearch.{search_is_least}
use Rattle.g704_cas.proofs.Searches.{multiframe_is_framing}
use Rattle.g704_cas.proofs.Wrongs.{is_second_wrong-alike}
use Rattle.gw_switch.specs.Laws.{is_first, is_slot16, ends_search, SearchesAreOfTheTrunk}
use Rattle.gw_switch.proofs.SameWorlds.{slot16_octets-length, with_slot}

-- whether an octet is the first of one of these alignments
abbrev first_at : List AlignmentSpan → ℕ → Bool
first_at ds k = is_first (age_in 0 ds k)

-- where a search in a list from this octet on ends
abbrev found_from : List ℕ → ℕ → Option ℕ
found_from s from = multiframe_alignment.search None s from

-- a multiframe alignment begins at an octet of the list
found_within : (s : List ℕ) (from m : ℕ) → found_from s from ≡ Some m → m < length s
found_within s from m e = search (rules, search_is_least, least-is)

-- it is not lost by its first octet
lost_later : (s : List ℕ) (m q : ℕ) → loss multiframe_alignment s m ≡ Some q → m < q
unfolding loss
lost_later s m q e = go (least (is_second_wrong (drop m s)) (length (drop m s)))
    (least-is (is_second_wrong (drop m s)) (length (drop m s))) e
  where
    go : (o : Option ℕ) → IsLeast (is_second_wrong (drop m s)) (length (drop m s)) o
        → option_map (λ k. m + k) o ≡ Some q → m < q
    go None l i = cc
    go (Some zero) l i = absurd (false≢true l.1)
    go (Some (suc k)) l i = let same = same_Some (m + suc k) q i in omega arith

-- the octet at which an alignment begins is its first
begins_at : (m : ℕ) (o : Option ℕ) (ds : List AlignmentSpan) → ((q : ℕ) → o ≡ Some q → m < q)
    → first_at (record { start = m; lost = o } ∷ ds) m ≡ true
begins_at m o ds later = search rules

-- no octet before that is of it, or of those after it
none_before : (t : List ℕ) (n k : ℕ) → k < n → age_in 0 (after_search multiframe_alignment None t (Some n)) k ≡ None
unfolding after_search
none_before t n k lt = search (rules, and_left, lt-leb, age-after_loss, multiframe_is_framing, loss-not_before)

module _ (s t : List ℕ) (len : length s ≡ length t) where
  -- where no octet is the first of an alignment there is none
  no_more : (from : ℕ) (o : Option ℕ) → found_from t from ≡ o
      → ((k : ℕ) → from ≤ k → k < length s → false ≡ first_at (after_search multiframe_alignment None t o) k)
      → [] ≡ after_search multiframe_alignment None t o
  unfolding after_search
  no_more from None e firsts = refl
  no_more from (Some n) e firsts =
      let low = search-from multiframe_alignment multiframe_is_framing None t from n e in
      absurd (false≢true (firsts n low (omega (arith, found_within t from n e, len))
      ∙ begins_at n (loss multiframe_alignment t n) _ (lost_later t n)))

  -- what comes after two losses that are the same
  after_both : (from m : ℕ) (ds : List AlignmentSpan) (q r : Option ℕ) → q ≡ r
      → ds ≡ after_loss multiframe_alignment None s q → ((p : ℕ) → q ≡ Some p → m < p) → from ≤ m
      → ((k : ℕ) → from ≤ k → k < length s → first_at (record { start = m; lost = q } ∷ ds) k
      ≡ first_at (record { start = m; lost = r } ∷ after_loss multiframe_alignment None t r) k)
      → ((g : ℕ) → ds ≡ alignments_from multiframe_alignment None s g
      → ((k : ℕ) → g ≤ k → k < length s → first_at ds k
      ≡ first_at (alignments_from multiframe_alignment None t g) k)
      → ds ≡ alignments_from multiframe_alignment None t g)
      → ds ≡ after_loss multiframe_alignment None t r
  unfolding after_loss
  after_both from m ds q r e i later low firsts again = search rules

  -- an alignment of the first list, and what is found in the second
  found_so : (d : AlignmentSpan) (ds : List AlignmentSpan) (from : ℕ) → IsLostAlike multiframe_alignment s t d
      → ((g : ℕ) → ds ≡ alignments_from multiframe_alignment None s g
      → ((k : ℕ) → g ≤ k → k < length s → first_at ds k
      ≡ first_at (alignments_from multiframe_alignment None t g) k)
      → ds ≡ alignments_from multiframe_alignment None t g)
      → (o p : Option ℕ) → found_from s from ≡ o → found_from t from ≡ p
      → d ∷ ds ≡ after_search multiframe_alignment None s o
      → ((k : ℕ) → from ≤ k → k < length s → first_at (d ∷ ds) k
      ≡ first_at (after_search multiframe_alignment None t p) k)
      → d ∷ ds ≡ after_search multiframe_alignment None t p
  unfolding after_search
  found_so d ds from alike again None p f g e firsts = cc
  found_so d ds from alike again (Some m) None f g e firsts =
      let low = search-from multiframe_alignment multiframe_is_framing None s from m f in
      absurd (false≢true (sym (firsts m low (found_within s from m f)) ∙ ap (λ es. first_at es m) e
      ∙ begins_at m (loss multiframe_alignment s m) _ (lost_later s m)))
  found_so d ds from alike again (Some m) (Some n) f g e firsts =
      let F = multiframe_alignment in
      let low = search-from multiframe_alignment multiframe_is_framing None s from m f in
      let low' = search-from multiframe_alignment multiframe_is_framing None t from n g in
      let in_s = found_within s from m f in
      let in_t = found_within t from n g in
      elim (cases_lt m n) [
        | inl lt ↦ absurd (false≢true (sym (ap is_first (none_before t n m lt)) ∙ sym (firsts m low in_s)
            ∙ ap (λ es. first_at es m) e ∙ begins_at m (loss multiframe_alignment s m) _ (lost_later s m)))
        | inr ge ↦ elim (cases_lt n m) [
          | inl gt ↦ absurd (false≢true (sym (ap is_first (none_before s m n gt)) ∙ sym (ap (λ es. first_at es n) e)
              ∙ firsts n low' (omega (arith, in_t, len))
              ∙ begins_at n (loss multiframe_alignment t n) _ (lost_later t n)))
          | inr le ↦
              let same : m ≡ n = omega arith in
              let first_is : d ≡ record { start = m; lost = loss F s m } = cc in
              let rest_is : ds ≡ after_loss F None s (loss F s m) = cc in
              let lost : loss F s m ≡ loss F t n
              = loss-alike F s t m len (subst (IsLostAlike F s t) first_is alike) ∙ ap (loss F t) same in
              let others : ds ≡ after_loss F None t (loss F t n) = after_both from m ds (loss F s m) (loss F t n) lost
              rest_is (lost_later s m) low (grind (arith, common_steps)) again in
              let first : d ≡ record { start = n; lost = loss F t n } = first_is ∙ same_alignment m n (loss F s m)
              (loss F t n) same lost in
              cc
        ]
      ]

  -- from any position on
  counted_from : (ds : List AlignmentSpan) (from : ℕ) → ds ≡ alignments_from multiframe_alignment None s from
      → ((k : ℕ) → from ≤ k → k < length s → first_at ds k
      ≡ first_at (alignments_from multiframe_alignment None t from) k)
      → AllByRecursion (IsLostAlike multiframe_alignment s t) ds
      → ds ≡ alignments_from multiframe_alignment None t from
  counted_from [] from e firsts all = search (rules, alignments_turns, multiframe_is_framing, no_more)
  counted_from (d ∷ ds) from e firsts all =
      let turns = alignments_turns multiframe_alignment multiframe_is_framing None t from in
      found_so d ds from all.0 (λ g i f. counted_from ds g i f all.1) (found_from s from) (found_from t from) refl refl
      (e ∙ alignments_turns multiframe_alignment multiframe_is_framing None s from)
      (λ k a b. firsts k a b ∙ ap (λ es. first_at es k) turns) ∙ sym turns

-- lists whose octets of frame 0 are right or wrong alike lose an alignment alike
kept_alike : (s t : List ℕ) (d : AlignmentSpan) → IsAlikeAlong multiframes s t d
    → IsLostAlike multiframe_alignment s t d
kept_alike s t d alike k lt up = search (rules, is_second_wrong-alike, get_or-drop, up_to_loss-earlier)

-- lists of which the same octets are the first of alignments are aligned alike
aligned_alike : (z w : List ℕ) → length z ≡ length w
    → ((k : ℕ) → k < length z → first_at (alignments_in multiframes z) k ≡ first_at (alignments_in multiframes w) k)
    → All (IsAlikeAlong multiframes z w) (alignments_in multiframes z) → IsAlignedAlike multiframes z w
aligned_alike z w len firsts keeping = record {
  len = len;
  searches = ap (search_ends_of multiframe_alignment)
      (counted_from z w len (alignments_in multiframes z) 0 refl (λ k a b. firsts k b)
      (recursion_from_All (IsLostAlike multiframe_alignment z w) (alignments_in multiframes z)
      (All-weaker (IsAlikeAlong multiframes z w) (IsLostAlike multiframe_alignment z w) (kept_alike z w)
      (alignments_in multiframes z) keeping)));
  keeping = keeping;
}

-- octet k of those of slot 16 before position e, in both streams, and where on the trunk it is
record IsAt (s t : List ℕ) (e k : ℕ) : Type 0 where
  at : ℕ
  below : at < e
  is_slot : is_slot16 (place s at) ≡ true
  before : length (slot16_octets s at) ≡ k
  within : length (slot16_octets s (suc at)) ≡ suc k
  late_here : List ℕ
  late_there : List ℕ
  here : slot16_octets s e ≡ slot16_octets s (suc at) ++ late_here
  there : slot16_octets t e ≡ slot16_octets t (suc at) ++ late_there

-- each octet of slot 16 is somewhere on the trunk
place_of_octet : (s t : List ℕ) → ((m : ℕ) → place s m ≡ place t m) → (e k : ℕ) → k < length (slot16_octets s e)
    → IsAt s t e k
place_of_octet s t same zero k lt = absurd (omega (arith, lt))
place_of_octet s t same (suc m) k lt = by_place (λ early. place_of_octet s t same m k early) (place s m) refl
  where
    by_place : (k < length (slot16_octets s m) → IsAt s t m k) → (p : Place) → place s m ≡ p → IsAt s t (suc m) k
    by_place earlier Hunting is =
        let none : slot16_octets s (suc m) ≡ [] = ap (λ p. with_octet p (slot16_octets s m) (get_or s m 0)) is in
        absurd (omega (arith, lt, ap length none))
    by_place earlier (Slot number fas) is =
        let x = cond (eqb number 16) (get_or s m 0 ∷ []) [] in
        let y = cond (eqb number 16) (get_or t m 0 ∷ []) [] in
        let here : slot16_octets s (suc m) ≡ slot16_octets s m ++ cond (eqb number 16) (get_or s m 0 ∷ []) []
        = with_slot (place s m) number fas (slot16_octets s m) (get_or s m 0) is in
        let there : slot16_octets t (suc m) ≡ slot16_octets t m ++ cond (eqb number 16) (get_or t m 0 ∷ []) []
        = with_slot (place t m) number fas (slot16_octets t m) (get_or t m 0) (sym (same m) ∙ is) in
        elim (cases_lt k (length (slot16_octets s m))) [
          | inl early ↦
              let r = earlier early in
              record {
                at = r.at;
                below = omega (arith, r.below);
                is_slot = r.is_slot;
                before = r.before;
                within = r.within;
                late_here = r.late_here ++ x;
                late_there = r.late_there ++ y;
                here = here ∙ ap (λ (z : List ℕ). z ++ x) r.here
                    ∙ append_assoc (slot16_octets s (suc r.at)) r.late_here x;
                there = there ∙ ap (λ (z : List ℕ). z ++ y) r.there
                    ∙ append_assoc (slot16_octets t (suc r.at)) r.late_there y;
              }
          | inr late ↦ elim (cases_Bool (eqb number 16)) [
            | inl here16 ↦
                let one : length (slot16_octets s (suc m)) ≡ length (slot16_octets s m) + 1
                = ap length here ∙ length-append (slot16_octets s m) x ∙ rw here16 refl in
                record {
                  at = m;
                  below = omega arith;
                  is_slot = ap is_slot16 is ∙ here16;
                  before = omega (arith, lt, late, one);
                  within = omega (arith, lt, late, one);
                  late_here = [];
                  late_there = [];
                  here = sym (append-nil (slot16_octets s (suc m)));
                  there = sym (append-nil (slot16_octets t (suc m)));
                }
            | inr other ↦
                let none : length (slot16_octets s (suc m)) ≡ length (slot16_octets s m) + 0
                = ap length here ∙ length-append (slot16_octets s m) x ∙ rw other refl in
                absurd (omega (arith, lt, late, none))
          ]
        ]

-- whether an octet of slot 16 is the first of a multiframe alignment is known with it
first_by_then : (s : List ℕ) (n k : ℕ) (whole late : List ℕ) → whole ≡ slot16_octets s (suc n) ++ late
    → length (slot16_octets s n) ≡ k → length (slot16_octets s (suc n)) ≡ suc k → is_slot16 (place s n) ≡ true
    → first_at (alignments_in multiframes whole) k ≡ ends_search s n
first_by_then s n k whole late e before within is = search (rules, ages_are_settled, multiframe_is_framing)

-- the same octets of the trunk end searches, so the same octets of slot 16 are the first of alignments
firsts_of_trunk : (s t : List ℕ) → ((m : ℕ) → place s m ≡ place t m)
    → ((n : ℕ) → n < length s → ends_search s n ≡ ends_search t n) → (e k : ℕ) → e ≤ length s
    → k < length (slot16_octets s e)
    → first_at (alignments_in multiframes (slot16_octets s e)) k
    ≡ first_at (alignments_in multiframes (slot16_octets t e)) k
firsts_of_trunk s t same searches e k end lt =
    let r = place_of_octet s t same e k lt in
    first_by_then s r.at k (slot16_octets s e) r.late_here r.here r.before r.within r.is_slot
    ∙ searches r.at (omega (arith, r.below, end))
    ∙ sym (first_by_then t r.at k (slot16_octets t e) r.late_there r.there
    (sym (slot16_octets-length s t r.at same) ∙ r.before) (sym (slot16_octets-length s t (suc r.at) same) ∙ r.within)
    (ap is_slot16 (sym (same r.at)) ∙ r.is_slot))

-- the law of multiframes counted over the trunk
pub counted_over_trunk : SearchesAreOfTheTrunk
counted_over_trunk c here there p =
    let alike = (place_alike (octets here) (octets there) p.frames).1 in
    let places : (m : ℕ) → place (octets here) m ≡ place (octets there) m = λ m. (alike m).0 in
    record {
      own = p.own;
      frames = p.frames;
      multiframes = λ n ends.
          aligned_alike (slot16_octets (octets here) n) (slot16_octets (octets there) n)
          (slot16_octets-length (octets here) (octets there) n places)
          (λ k lt. firsts_of_trunk (octets here) (octets there) places p.searches n k ends.0 lt)
          (p.keeping n ends);
      slot = p.slot;
      nibble = p.nibble;
    }
