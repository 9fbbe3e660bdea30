-- One octet more, in each phase.
use Rattle.std.proofs.Common.{◌≡◌, ℕ, ◌+◌, ◌-◌, ◌<◌, ◌≤◌, ◌%◌, List, [], ◌∷◌, ◌++◌, length, Bool, true, false, Option}
use Rattle.std.proofs.Common.{refl, sym, ◌∙◌, arith, not}
use Rattle.std.specs.Prelude.{◌≢◌, ◌&&◌}
use Rattle.std.proofs.lemmas.List.{get_or_append_left, length_push}
use Rattle.std.proofs.lemmas.Bool.{lt-ltb, and_left, and_right, cases_eq}
use Rattle.g704_framing.specs.Restart.{RestartsAfter, last_of}
use Rattle.g704_framing.proofs.Ends.{RestartsAfter-passed, kept-more, RestartsAfter-lost, last_of-push}
use Rattle.g704_cas.specs.Search.{is_mfas, is_not_zero, search}
use Rattle.g704_cas.specs.Loss.{is_wrong, is_second_wrong, multiframe_alignment}
use Rattle.g704_cas.specs.Aligner.{IsAlignedRun}
use Rattle.g704_cas.proofs.Wrongs.{is_wrong-append, is_wrong-other, is_wrong-first, is_wrong-last}
use Rattle.g704_cas.proofs.Searches.{multiframe_is_framing, search-found}

-- an octet by which alignment is found
pub first_octet : (b : Option ℕ) (x : ℕ) → is_not_zero b ≡ true → is_mfas x ≡ true → IsAlignedRun b 1 false (x ∷ [])
first_octet b x h r = grind (arith, is_wrong-first (x ∷ []) r)

-- and one by which it is not
pub RestartsAfter-other : (b : Option ℕ) (x : ℕ) → (is_mfas x && is_not_zero b) ≡ false
    → RestartsAfter multiframe_alignment b (x ∷ [])
unfolding search
RestartsAfter-other b x h = RestartsAfter-passed multiframe_alignment multiframe_is_framing b (x ∷ []) (λ t. rw h refl)

-- a wrong octet is not 0
pub not_zero-wrong : (b : Option ℕ) (c : List ℕ) (x : ℕ) → is_mfas x ≡ false
    → true ≡ is_not_zero (last_of b (c ++ x ∷ []))
unfolding is_mfas
not_zero-wrong b c x r = grind (arith, last_of-push b c x, cases_eq x 0)

-- an alignment after one octet more
module _ (b : Option ℕ) (c : List ℕ) (x frame : ℕ) (wrong : Bool) (h : IsAlignedRun b frame wrong c) where
  -- its fields, if it is not lost by the octet
  more : (frame' : ℕ) (wrong' : Bool) → frame' ≡ length (c ++ x ∷ []) % 16
      → is_second_wrong (c ++ x ∷ []) (length c) ≡ false
      → ((k : ℕ) → length (c ++ x ∷ []) ≤ k → k < length (c ++ x ∷ []) + 16 → k % 16 ≡ 0
      → wrong' ≡ is_wrong (c ++ x ∷ []) (k - 16))
      → IsAlignedRun b frame' wrong' (c ++ x ∷ [])
  more frame' wrong' n now l = let s = h.begun in let p = length_push c x in record {
    after_nonzero = h.after_nonzero;
    begun = omega arith;
    first = rw (get_or_append_left c (x ∷ []) 0 0 s) h.first;
    counted = n;
    kept = kept-more multiframe_alignment multiframe_is_framing c x h.kept now;
    last = l;
  }

  -- by an octet of another frame
  pub other-more : frame ≢ 0 → IsAlignedRun b ((frame + 1) % 16) wrong (c ++ x ∷ [])
  other-more ne =
      let a = h.counted in
      let p = length_push c x in
      let other : length c % 16 ≢ 0 = λ e. ne (a ∙ e) in
      more ((frame + 1) % 16) wrong (omega arith)
      (and_right _ _ (and_left _ _ (is_wrong-other (c ++ x ∷ []) (length c) other)))
      (λ k ge lt e.
      let far : k ≢ length c + 16 = λ q. other (omega (arith, q)) in
      h.last k (omega arith) (omega arith) e ∙ sym (is_wrong-append c (x ∷ []) (k - 16) (omega arith)))

  -- whether the last octet of a frame 0 was wrong
  last_wrong : frame ≡ 0 → wrong ≡ is_wrong c (length c - 16)
  last_wrong e = let a = h.counted in h.last (length c) (omega arith) (omega arith) (omega arith)

  -- the octet is in frame 0
  at_zero : frame ≡ 0 → length c % 16 ≡ 0
  at_zero e = let a = h.counted in omega arith

  -- whether it is the second wrong one in a row
  second_now : frame ≡ 0 → is_second_wrong (c ++ x ∷ []) (length c) ≡ (not (is_mfas x) && wrong)
  second_now e =
      cc (
        lt-ltb 0 (length c) h.begun,
        is_wrong-last c x (at_zero e),
        is_wrong-append c (x ∷ []) (length c - 16) (omega arith),
        last_wrong e,
      )

  -- by one of frame 0 that is right, or the first in a row that is wrong
  pub zero-more : (right : Bool) → frame ≡ 0 → is_mfas x ≡ right → (not right && wrong) ≡ false
      → IsAlignedRun b 1 (not right) (c ++ x ∷ [])
  zero-more right e r passed =
      let p = length_push c x in
      more 1 (not right) (omega arith) (second_now e ∙ rw r passed)
      (λ k ge lt m. let n : k - 16 ≡ length c = omega arith in rw (n, is_wrong-last c x (at_zero e), r) refl)

  -- by the second
  pub zero-lost : frame ≡ 0 → is_mfas x ≡ false → wrong ≡ true → RestartsAfter multiframe_alignment b (c ++ x ∷ [])
  zero-lost e r w =
      RestartsAfter-lost multiframe_alignment multiframe_is_framing b c x
      (λ t. search-found b c t h.begun h.after_nonzero h.first) h.kept
      (second_now e ∙ rw (r, w) refl)

  -- the frame of the next octet is below 16
  pub frame-below : frame < 16
  frame-below = let a = h.counted in omega arith
