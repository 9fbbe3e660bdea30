-- The alignments of a stream as searches and losses in turn, and seen from a later octet on.
use Rattle.std.proofs.Common.{arith, rules, ◌≡◌, ℕ, zero, suc, List, [], ◌∷◌, ◌++◌, length, map, drop, Option, Some}
use Rattle.std.proofs.Common.{None, refl, sym}
use Rattle.g704_framing.proofs.Common.{option_map, least, Framing, AlignmentSpan, later_alignment, loss}
use Rattle.g704_framing.proofs.Common.{alignments_from, after_loss, after_search, moved, last_of, AlignmentsTakeTurns}
use Rattle.g704_framing.proofs.Moves.{option_map-suc, map-moved_zero, map-moved_suc}

-- a loss, counted from one octet further back
loss-later : (f : Framing) (x : ℕ) (s : List ℕ) (p : ℕ) → loss f (x ∷ s) (suc p) ≡ option_map suc (loss f s p)
unfolding loss
loss-later f x s p = option_map-suc p (least (f.is_lost (drop p s)) (length (drop p s)))

-- if there is no alignment, nothing was found
pub none_found : (f : Framing) (b : Option ℕ) (s : List ℕ) (o : Option ℕ) → [] ≡ after_search f b s o → o ≡ None
unfolding after_search
none_found f b s o e = search rules

-- an alignment before others
abbrev pub onto : AlignmentSpan → List AlignmentSpan → List AlignmentSpan
onto d ds = d ∷ ds

-- a search from the first octet on
zero_case : (f : Framing) (b : Option ℕ) (x : ℕ) (s : List ℕ) (r : Option ℕ) →
    ◌≡◌ {A = List AlignmentSpan} (elim r [
      | None ↦ []
      | Some start ↦ record { start = start; lost = loss f (x ∷ s) start }
          ∷ (elim (loss f (x ∷ s) start) [
            | None ↦ []
            | Some position ↦ map later_alignment (alignments_from f (Some x) s position)
          ])
    ]) (after_search f b (x ∷ s) r)
unfolding after_search after_loss alignments_from
zero_case f b x s r = search rules

-- a search from a later octet on
suc_case : (f : Framing) (b : Option ℕ) (x : ℕ) (s : List ℕ) (r : Option ℕ)
    → map later_alignment (after_search f (Some x) s r) ≡ after_search f b (x ∷ s) (option_map suc r)
unfolding after_search after_loss alignments_from
suc_case f b x s None = refl
suc_case f b x s (Some p) = grind (arith, loss-later f x s p)

-- the alignments, as searches and losses in turn
pub alignments_turns : AlignmentsTakeTurns
unfolding alignments_from after_search
alignments_turns f h b [] from = rw (h.nothing b from) refl
alignments_turns f h b (x ∷ s) zero = zero_case f b x s (f.search b (x ∷ s) zero)
alignments_turns f h b (x ∷ s) (suc from) =
    grind (arith, alignments_turns f h (Some x) s from, suc_case f b x s (f.search (Some x) s from))

-- the alignments from the first octet of the second part on
pub alignments-append : (f : Framing) (b : Option ℕ) (a t : List ℕ)
    → alignments_from f b (a ++ t) (length a) ≡ map (moved (length a)) (alignments_from f (last_of b a) t 0)
unfolding alignments_from
alignments-append f b [] t = sym (map-moved_zero (alignments_from f b t 0))
alignments-append f b (x ∷ a) t =
    cc (alignments-append f (Some x) a t, map-moved_suc (length a) (alignments_from f (last_of (Some x) a) t 0))
