-- The alignments in the windows since the last restart: none, a present one, or one lost by the last window.
use Rattle.std.proofs.Common.{◌≡◌, ℕ, suc, ◌+◌, ◌<◌, ◌%◌, List, [], ◌∷◌, ◌++◌, length, map, true, false}
use Rattle.std.proofs.Common.{Bool, Option, Some, None, refl, sym, ap, ◌∙◌, arith, append_assoc}
use Rattle.std.specs.Prelude.{◌&&◌, nat_le, option_map}
use Rattle.std.proofs.lemmas.Bool.Decides.{nat_tests}
use Rattle.std.proofs.lemmas.List.{length-append, append-nil, drop_at, length_push}
use Rattle.g704_framing.specs.Alignment.{AlignmentSpan, loss, alignments_from, after_search, after_loss}
use Rattle.g704_framing.specs.Restart.{RestartsAfter, last_of, moved}
use Rattle.g704_framing.proofs.Leasts.{IsLeast, least_equals}
use Rattle.g704_framing.proofs.Turns.{alignments_turns, alignments-append, onto}
use Rattle.g704_framing.proofs.Ends.{is_lost-append}
use Rattle.g704_bits.specs.Search.{search, is_confirmed}
use Rattle.g704_bits.specs.Loss.{is_lost_at, bit_alignment}
use Rattle.g704_bits.specs.Bits.{offset_of, offset_after}
use Rattle.g704_bits.specs.Aligner.{IsAlignedRun}
use Rattle.g704_bits.proofs.Framing.{bits_are_framing, search-equals, confirmed-append, confirmed-behind}
use Rattle.g704_bits.proofs.Steps.{first-confirmed, not-lost}

-- a test that fails, behind another
and_false : (b : Bool) → (b && false) ≡ false
and_false true = refl
and_false false = refl

-- a search that finds nothing
pub search-none : (c : List ℕ) → ((k : ℕ) → is_confirmed c k ≡ false) → search c 0 ≡ None
search-none c none = search-equals c 0 None (λ k lt. rw (none k) (and_false (nat_le 0 k)))

-- so there is no alignment
pub none-yet : (b : Option ℕ) (c : List ℕ) → ((k : ℕ) → is_confirmed c k ≡ false)
    → alignments_from bit_alignment b c 0 ≡ []
unfolding after_search
none-yet b c none = alignments_turns bit_alignment bits_are_framing b c 0 ∙ rw (search-none c none) refl

-- an alignment at a place of a stream: it is found there, whatever follows
pub found-at : (sk al t : List ℕ) (age ws wd : ℕ) → IsAlignedRun age ws wd al
    → ((k : ℕ) → k < length sk → is_confirmed (sk ++ al) k ≡ false) → search ((sk ++ al) ++ t) 0 ≡ Some (length sk)
found-at sk al t age ws wd h none =
    let l : length (sk ++ al) ≡ length sk + length al = length-append sk al in
    let lt : length sk + 512 < length (sk ++ al) = omega arith in
    let here : is_confirmed (sk ++ al) (length sk) ≡ true
    = confirmed-behind sk al ∙ first-confirmed al age ws wd h in
    let first : nat_le 0 (length sk) ≡ true = grind (arith, nat_tests) in
    search-equals ((sk ++ al) ++ t) 0 (Some (length sk)) (
      omega (arith, length-append (sk ++ al) t),
      rw (first, confirmed-append (sk ++ al) t (length sk) lt) here,
      λ k less. rw (confirmed-append (sk ++ al) t k (omega arith), none k less) (and_false (nat_le 0 k)),
    )

-- the loss of an alignment, by the windows from its first one on
loss-at : (sk d : List ℕ) (o : Option ℕ) → IsLeast (is_lost_at d) (length d) o
    → loss bit_alignment (sk ++ d) (length sk) ≡ option_map (λ age. length sk + age) o
unfolding loss
loss-at sk d o h = cc (drop_at sk d (length sk) refl, least_equals (is_lost_at d) (length d) o h)

-- a present alignment is the only one
pub one-stands : (b : Option ℕ) (sk al : List ℕ) (age ws wd : ℕ) → IsAlignedRun age ws wd al
    → ((k : ℕ) → k < length sk → is_confirmed (sk ++ al) k ≡ false)
    → alignments_from bit_alignment b (sk ++ al) 0 ≡ record { start = length sk; lost = None } ∷ []
unfolding after_search after_loss
one-stands b sk al age ws wd h none =
    let found : search (sk ++ al) 0 ≡ Some (length sk)
    = ap (λ s. search s 0) (sym (append-nil (sk ++ al))) ∙ found-at sk al [] age ws wd h none in
    alignments_turns bit_alignment bits_are_framing b (sk ++ al) 0
    ∙ rw (found, loss-at sk al None (not-lost al age ws wd h)) refl

-- and one that is lost by the next window ends all
pub one-lost : (b : Option ℕ) (sk al : List ℕ) (x age ws wd : ℕ) → IsAlignedRun age ws wd al
    → ((k : ℕ) → k < length sk → is_confirmed (sk ++ al) k ≡ false)
    → is_lost_at (al ++ x ∷ []) (length al) ≡ true
    → (t : List ℕ) → alignments_from bit_alignment b (((sk ++ al) ++ x ∷ []) ++ t) 0
    ≡ record { start = length sk; lost = Some (length sk + length al) }
    ∷ map (moved (length ((sk ++ al) ++ x ∷ []))) (alignments_from bit_alignment (last_of b ((sk ++ al) ++ x ∷ [])) t 0)
unfolding after_search after_loss
one-lost b sk al x age ws wd h none third t =
    let c = (sk ++ al) ++ x ∷ [] in
    let len : length c ≡ suc (length sk + length al) = omega (arith, length_push (sk ++ al) x, length-append sk al) in
    let la = length_push al x in
    let found : search (c ++ t) 0 ≡ Some (length sk)
    = rw (append_assoc (sk ++ al) (x ∷ []) t) (found-at sk al (x ∷ t) age ws wd h none) in
    let parts : c ++ t ≡ sk ++ ((al ++ x ∷ []) ++ t)
    = append_assoc (sk ++ al) (x ∷ []) t ∙ append_assoc sk al (x ∷ t)
    ∙ ap (λ s. sk ++ s) (sym (append_assoc al (x ∷ []) t)) in
    let lost : loss bit_alignment (c ++ t) (length sk) ≡ Some (length sk + length al)
    = ap (λ s. loss bit_alignment s (length sk)) parts
    ∙ loss-at sk ((al ++ x ∷ []) ++ t) (Some (length al)) (
      omega (arith, length-append (al ++ x ∷ []) t, la),
      is_lost-append bit_alignment bits_are_framing (al ++ x ∷ []) t (length al) (omega (arith, la)) ∙ third,
      λ k lt. is_lost-append bit_alignment bits_are_framing (al ++ x ∷ []) t k (omega (arith, la))
          ∙ is_lost-append bit_alignment bits_are_framing al (x ∷ []) k lt ∙ not-lost al age ws wd h k lt,
    ) in
    alignments_turns bit_alignment bits_are_framing b (c ++ t) 0
    ∙ rw (found, lost) (ap (onto (record { start = length sk; lost = Some (length sk + length al) }))
    (rw (← len) (alignments-append bit_alignment b c t)))

-- so everything restarts after it
pub over-lost : (b : Option ℕ) (sk al : List ℕ) (x age ws wd : ℕ) → IsAlignedRun age ws wd al
    → ((k : ℕ) → k < length sk → is_confirmed (sk ++ al) k ≡ false)
    → is_lost_at (al ++ x ∷ []) (length al) ≡ true → RestartsAfter bit_alignment b ((sk ++ al) ++ x ∷ [])
over-lost b sk al x age ws wd h none third = record {
  earlier = record { start = length sk; lost = Some (length sk + length al) } ∷ [];
  all_lost = (omega (arith, length_push (sk ++ al) x, length-append sk al), tt);
  anew = one-lost b sk al x age ws wd h none third;
}

-- the offset of alignments, one list after another
offset_of-append : (j : ℕ) (ds es : List AlignmentSpan) → offset_of j (ds ++ es) ≡ offset_of (offset_of j ds) es
offset_of-append j [] es = refl
offset_of-append j (d ∷ ds) es = offset_of-append (d.start % 8) ds es

-- the offset after a history, by the windows since the last restart
pub offset-since : (earlier since : List ℕ) (over : RestartsAfter bit_alignment None earlier)
    → offset_after (earlier ++ since)
    ≡ offset_of (offset_of 7 over.earlier)
    (map (moved (length earlier)) (alignments_from bit_alignment (last_of None earlier) since 0))
unfolding offset_after
offset-since earlier since over = ap (offset_of 7) (over.anew since)
    ∙ offset_of-append 7 over.earlier
    (map (moved (length earlier)) (alignments_from bit_alignment (last_of None earlier) since 0))
