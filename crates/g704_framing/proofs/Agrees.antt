-- Streams that are aligned alike have the same alignments.
use Rattle.std.proofs.Common.{rules, ◌≡◌, ℕ, suc, ◌+◌, ◌-◌, ◌<◌, ◌≤◌, List, [], ◌∷◌, length, Bool, Option, Some, None}
use Rattle.std.proofs.Common.{refl, sym, ap, ◌∙◌, subst, arith, length-drop}
use Rattle.g704_framing.proofs.Common.{option_map, AllByRecursion, recursion_from_All, same_Some, Framing}
use Rattle.g704_framing.proofs.Common.{AlignmentSpan, loss, alignments_from, search_ends_of, after_search, after_loss}
use Rattle.g704_framing.proofs.Common.{IsFraming, IsUpToLoss, IsLostAlike, AlignmentsAreAlike}
use Rattle.g704_framing.proofs.Leasts.{IsLeast, least-is, least_equals, reach, least_alike}
use Rattle.g704_framing.proofs.Moves.{same_alignment}
use Rattle.g704_framing.proofs.Turns.{alignments_turns}

-- up to the loss is also what comes before
pub up_to_loss-earlier : (m n : ℕ) (o : Option ℕ) → m ≤ n → IsUpToLoss n o → IsUpToLoss m o
up_to_loss-earlier m n o le up = search rules

-- what is as far as the least that passes is in range, and up to the loss that it makes
pub within_reach : (passes : ℕ → Bool) (k n : ℕ) (o : Option ℕ) → IsLeast passes n o → k < reach o n → k < n
within_reach passes k n o l lt = search rules

-- what is as far as the least that passes is up to the loss that it makes
up_to_loss : (p k n : ℕ) (o : Option ℕ) → k < reach o n → IsUpToLoss (p + k) (option_map (λ j. p + j) o)
up_to_loss p k n o lt = search rules

-- a loss is the same if two streams are lost alike up to it
pub loss-alike : (f : Framing) (s t : List ℕ) (p : ℕ) → length s ≡ length t
    → IsLostAlike f s t (record { start = p; lost = loss f s p }) → loss f s p ≡ loss f t p
unfolding loss
loss-alike f s t p len alike =
    search (rules, length-drop, least-is, least_alike, within_reach, up_to_loss, least_equals)

module _ (f : Framing) (h : IsFraming f) (s t : List ℕ) (len : length s ≡ length t) where
  -- if no search ends there is no alignment
  empty_ends : (ds : List AlignmentSpan) → [] ≡ search_ends_of f ds → [] ≡ ds
  empty_ends [] e = refl
  empty_ends (d ∷ ds) e = cc

  -- what two searches found, and the alignments after it
  found_alike : (d : AlignmentSpan) (ds : List AlignmentSpan) → IsLostAlike f s t d
      → ((from : ℕ) → ds ≡ alignments_from f None s from
      → search_ends_of f ds ≡ search_ends_of f (alignments_from f None t from)
      → ds ≡ alignments_from f None t from)
      → (o p : Option ℕ) → d ∷ ds ≡ after_search f None s o
      → search_ends_of f (d ∷ ds) ≡ search_ends_of f (after_search f None t p)
      → d ∷ ds ≡ after_search f None t p
  unfolding after_search after_loss
  found_alike d ds alike again None p e ends = cc
  found_alike d ds alike again (Some m) None e ends = cc
  found_alike d ds alike again (Some m) (Some n) e ends =
      let begins : d.start ≡ m = cc in
      let is_lost : d.lost ≡ loss f s m = cc in
      let rest_is : ds ≡ after_loss f None s (loss f s m) = cc in
      let end : d.start + f.found_at ≡ n + f.found_at = cc in
      let other_ends : search_ends_of f ds ≡ search_ends_of f (after_loss f None t (loss f t n)) = cc in
      let same : m ≡ n = omega arith in
      let first_is : d ≡ record { start = m; lost = loss f s m } = cc in
      let lost : loss f s m ≡ loss f t n
      = loss-alike f s t m len (subst (IsLostAlike f s t) first_is alike) ∙ ap (loss f t) same in
      let others : ds ≡ after_loss f None t (loss f t n) = rest (loss f s m) (loss f t n) lost rest_is other_ends in
      let first : d ≡ record { start = n; lost = loss f t n }
      = same_alignment d.start n d.lost (loss f t n) (begins ∙ same) (is_lost ∙ lost) in
      cc
    where
      rest : (q r : Option ℕ) → q ≡ r → ds ≡ after_loss f None s q
          → search_ends_of f ds ≡ search_ends_of f (after_loss f None t r)
          → ds ≡ after_loss f None t r
      rest None None e' i i' = i
      rest None (Some r) e' i i' = cc
      rest (Some q) None e' i i' = cc
      rest (Some q) (Some r) e' i i' =
          again (suc r) (i ∙ ap (λ k. alignments_from f None s (suc k)) (same_Some q r e')) i'

  -- from any position on, by the alignments of the first stream
  alike_from : (ds : List AlignmentSpan) (from : ℕ) → ds ≡ alignments_from f None s from
      → search_ends_of f ds ≡ search_ends_of f (alignments_from f None t from) → AllByRecursion (IsLostAlike f s t) ds
      → ds ≡ alignments_from f None t from
  alike_from [] from e ends all = empty_ends (alignments_from f None t from) ends
  alike_from (d ∷ ds) from e ends all =
      found_alike d ds all.0 (λ g e' ends'. alike_from ds g e' ends' all.1) (f.search None s from)
      (f.search None t from)
      (e ∙ alignments_turns f h None s from) (ends ∙ ap (search_ends_of f) (alignments_turns f h None t from))
      ∙ sym (alignments_turns f h None t from)

-- the law
pub alignments_are_alike : AlignmentsAreAlike
alignments_are_alike f h s t len ends alike = search (rules, alike_from, recursion_from_All)
