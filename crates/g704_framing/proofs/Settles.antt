-- Later octets change no age.
use Rattle.std.proofs.Common.{rules, ◌≡◌, ℕ, zero, suc, ◌+◌, ◌<◌, ◌≤◌, List, [], ◌∷◌, ◌++◌, length, map, drop, Option}
use Rattle.std.proofs.Common.{Some, None, refl, sym, ◌∙◌, arith, length-append, length-drop}
use Rattle.g704_framing.proofs.Common.{option_map, lt-ltb, lt-leb, and_left, cases_lt, false≢true, least, Framing}
use Rattle.g704_framing.proofs.Common.{AlignmentSpan, later_alignment, loss, alignments_from, after_search, after_loss}
use Rattle.g704_framing.proofs.Common.{age_in, IsFraming, IsFoundAfter, AgesAreSettled}
use Rattle.std.proofs.lemmas.List.{drop-append-le}
use Rattle.g704_framing.proofs.Leasts.{IsLeast, least-is, only_one}
use Rattle.g704_framing.proofs.Turns.{alignments_turns, none_found}
use Rattle.g704_framing.proofs.Ends.{is_lost-append}

-- each alignment begins at this position or later
abbrev pub BeginFrom : ℕ → List AlignmentSpan → Type 0
BeginFrom from [] = Unit {0}
BeginFrom from (d ∷ ds) = (from ≤ d.start) × BeginFrom from ds

-- counted from one further back they begin one later
begin-later : (from : ℕ) (ds : List AlignmentSpan) → BeginFrom from ds → BeginFrom (suc from) (map later_alignment ds)
begin-later from [] h = tt
begin-later from (d ∷ ds) h = let le = h.0 in (omega arith, begin-later from ds h.1)

-- each begins somewhere
begin-zero : (ds : List AlignmentSpan) → BeginFrom 0 ds
begin-zero [] = tt
begin-zero (d ∷ ds) = (omega arith, begin-zero ds)

-- the alignments from a position on begin there or later
pub alignments-begin : (f : Framing) (b : Option ℕ) (s : List ℕ) (from : ℕ)
    → BeginFrom from (alignments_from f b s from)
unfolding alignments_from
alignments-begin f b [] from = tt
alignments-begin f b (x ∷ s) zero = begin-zero (alignments_from f b (x ∷ s) 0)
alignments-begin f b (x ∷ s) (suc from) =
    begin-later from (alignments_from f (Some x) s from) (alignments-begin f (Some x) s from)

-- and give no age to an octet before
pub age_in-before : (a from n : ℕ) (ds : List AlignmentSpan) → BeginFrom from ds → n < from + a → age_in a ds n ≡ None
age_in-before a from n [] h lt = refl
age_in-before a from n (d ∷ ds) h lt =
    cc (and_left _ _ (lt-leb (d.start + a) n (omega arith)), age_in-before a from n ds h.1 lt)

-- counted from one further back, what is found is one later too
from_later : (from p : ℕ) (o : Option ℕ) → option_map suc o ≡ Some p → ((q : ℕ) → o ≡ Some q → from ≤ q) → suc from ≤ p
from_later from p o e h = search rules

-- a search finds nothing before its begin
pub search-from : (f : Framing) → IsFraming f → (b : Option ℕ) (s : List ℕ) (from p : ℕ) → f.search b s from ≡ Some p
    → from ≤ p
search-from f h b [] from p e = let none = h.nothing b from in cc
search-from f h b (x ∷ s) zero p e = omega arith
search-from f h b (x ∷ s) (suc from) p e =
    from_later from p (f.search (Some x) s from) (sym (h.later b x s from) ∙ e) (search-from f h (Some x) s from)

-- a loss, if there is one, is not before this position
abbrev pub IsNotBefore : ℕ → Option ℕ → Type 0
IsNotBefore position None = Unit {0}
IsNotBefore position (Some lost) = position ≤ lost

-- the loss in a stream that goes on: it stays, or there was none and it is one of the later octets
abbrev pub Continues : ℕ → Option ℕ → Option ℕ → Type 0
Continues end None p = IsNotBefore end p
Continues end (Some lost) p = p ≡ Some lost

module _ (f : Framing) (h : IsFraming f) where
  -- the least place at which an alignment is lost, in a longer stream
  least-continues : (c t : List ℕ) (o p : Option ℕ) → IsLeast (f.is_lost c) (length c) o
      → IsLeast (f.is_lost (c ++ t)) (length (c ++ t)) p → Continues (length c) o p
  least-continues c t None None l m = tt
  least-continues c t None (Some k) l m = search (rules, cases_lt, false≢true, is_lost-append)
  least-continues c t (Some j) p l m =
      let lt = l.0 in
      let n = length-append c t in
      let first : IsLeast (f.is_lost (c ++ t)) (length (c ++ t)) (Some j) = (
        omega arith,
        is_lost-append f h c t j lt ∙ l.1,
        λ k below. is_lost-append f h c t k (omega arith) ∙ l.2 k below,
      ) in
      only_one (f.is_lost (c ++ t)) (length (c ++ t)) p (Some j) m first

  -- the same, counted from further back
  moved-continues : (start end : ℕ) (o p : Option ℕ) → Continues end o p
      → Continues (start + end) (option_map (λ k. start + k) o) (option_map (λ k. start + k) p)
  moved-continues start end o p g = search rules

  -- so the loss of an alignment in a stream that goes on
  loss-continues : (s t : List ℕ) (p : ℕ) → p ≤ length s → Continues (length s) (loss f s p) (loss f (s ++ t) p)
  unfolding loss
  loss-continues s t p le =
      let d : drop p (s ++ t) ≡ drop p s ++ t = drop-append-le p s t le in
      let n : p + length (drop p s) ≡ length s = omega (arith, length-drop p s) in
      let g : Continues (p + length (drop p s))
      (option_map (λ k. p + k) (least (f.is_lost (drop p s)) (length (drop p s))))
      (option_map (λ k. p + k) (least (f.is_lost (drop p s ++ t)) (length (drop p s ++ t))))
      = moved-continues p (length (drop p s)) _ _
      (least-continues (drop p s) t _ _ (least-is (f.is_lost (drop p s)) (length (drop p s)))
      (least-is (f.is_lost (drop p s ++ t)) (length (drop p s ++ t)))) in
      rw d (rw n at g)

  -- a position that is counted from another is not before it
  not_before : (p : ℕ) (o : Option ℕ) → IsNotBefore p (option_map (λ k. p + k) o)
  not_before p o = search rules

  -- no alignment is lost before its first octet
  pub loss-not_before : (s : List ℕ) (p : ℕ) → IsNotBefore p (loss f s p)
  unfolding loss
  loss-not_before s p = not_before p (least (f.is_lost (drop p s)) (length (drop p s)))

  -- an alignment that begins past the end is not lost
  loss-past : (s : List ℕ) (p : ℕ) → length s ≤ p → loss f s p ≡ None
  unfolding loss least
  loss-past s p le = let n : length (drop p s) ≡ 0 = omega (arith, length-drop p s) in rw n refl

  -- what is not before a position is not before an earlier one
  later_loss : (m n : ℕ) (o : Option ℕ) → m ≤ n → IsNotBefore n o → IsNotBefore m o
  later_loss m n o le g = search rules

  -- the loss in a stream that goes on, wherever the alignment begins
  loss-settled : (s t : List ℕ) (p : ℕ) → Continues (length s) (loss f s p) (loss f (s ++ t) p)
  loss-settled s t p = search (rules, cases_lt, loss-continues, loss-past, later_loss, loss-not_before)

  -- what begins from a position on begins from an earlier one on
  begin_earlier : (m n : ℕ) (ds : List AlignmentSpan) → m ≤ n → BeginFrom n ds → BeginFrom m ds
  begin_earlier m n [] le g = tt
  begin_earlier m n (d ∷ ds) le g = let first = g.0 in (omega arith, begin_earlier m n ds le g.1)

  -- the alignments after a loss begin after it
  after_loss-begin : (b : Option ℕ) (s : List ℕ) (p : ℕ) (o : Option ℕ) → IsNotBefore p o
      → BeginFrom (suc p) (after_loss f b s o)
  unfolding after_loss
  after_loss-begin b s p None g = tt
  after_loss-begin b s p (Some q) g = search (rules, begin_earlier, alignments-begin)

  -- so they give no age to an octet that the alignment before them could have
  pub age-after_loss : (b : Option ℕ) (s : List ℕ) (a p n : ℕ) (o : Option ℕ) → IsNotBefore p o → n ≤ p + a
      → age_in a (after_loss f b s o) n ≡ None
  age-after_loss b s a p n o g le = search (rules, age_in-before, after_loss-begin)

  -- what is found by a later octet gives no age
  age-found_later : (b : Option ℕ) (s : List ℕ) (a count n : ℕ) (o : Option ℕ) → f.found_at ≤ a → n < count
      → IsFoundAfter count f.found_at o → age_in a (after_search f b s o) n ≡ None
  unfolding after_search
  age-found_later b s a count n None le lt g = refl
  age-found_later b s a count n (Some p) le lt g = search (rules, and_left, lt-leb, age-after_loss, loss-not_before)

  -- an alignment and what comes after its loss, in the stream and in the stream that goes on
  module _ (b : Option ℕ) (s t : List ℕ) (a n : ℕ) (lt : n < length s) where
    -- the age of the octet is the same
    age-continues : (p : ℕ) (o r : Option ℕ) → Continues (length s) o r
        → ((q : ℕ) → o ≡ Some q
        → age_in a (alignments_from f b (s ++ t) (suc q)) n ≡ age_in a (alignments_from f b s (suc q)) n)
        → age_in a (record { start = p; lost = r } ∷ after_loss f b (s ++ t) r) n
        ≡ age_in a (record { start = p; lost = o } ∷ after_loss f b s o) n
    unfolding after_loss
    age-continues p None None g again = refl
    age-continues p None (Some q) g again = search (rules, lt-ltb, age_in-before, alignments-begin)
    age-continues p (Some q) r g again = rw (g, again q refl) refl

    -- after a search that found an alignment
    settle_found : (le : f.found_at ≤ a) (d : AlignmentSpan) (ds : List AlignmentSpan) (from : ℕ) (o : Option ℕ)
        → f.search b s from ≡ o
        → d ∷ ds ≡ after_search f b s o
        → ((q : ℕ) → ds ≡ alignments_from f b s (suc q)
        → age_in a (alignments_from f b (s ++ t) (suc q)) n ≡ age_in a ds n)
        → age_in a (after_search f b (s ++ t) (f.search b (s ++ t) from)) n ≡ age_in a (d ∷ ds) n
    unfolding after_search after_loss
    settle_found le d ds from None i e again = cc
    settle_found le d ds from (Some p) i e again = search (rules, age-continues, loss-settled)

    -- from any position on, by the alignments of the stream
    settle : (le : f.found_at ≤ a) (ds : List AlignmentSpan) (from : ℕ) → ds ≡ alignments_from f b s from
        → age_in a (alignments_from f b (s ++ t) from) n ≡ age_in a ds n
    settle le [] from e = search (rules, none_found, alignments_turns, age-found_later)
    settle le (d ∷ ds) from e =
        rw (alignments_turns f h b (s ++ t) from)
        (settle_found le d ds from (f.search b s from) refl (e ∙ alignments_turns f h b s from)
        (λ q i. settle le ds (suc q) i))

-- the law
pub ages_are_settled : AgesAreSettled
ages_are_settled f h s t a n le lt = settle f h None s t a n lt le _ 0 refl
