-- What the files of a log leave, by what their pairs have.
use Rattle.std.proofs.Common.{◌≡◌, ◌∙◌, ◌+◌, ◌<◌, ◌++◌, [], ℕ, List, get_or, length, take, refl, sym, ap, subst, arith}
use Rattle.std.proofs.Common.{inl, inr, ⊎_elim, ◌⊎◌, Option, Some, None, IfSome, length-append}
use Rattle.log_files.specs.Adler.{Sums, sum_of, sums_of}
use Rattle.log_files.specs.Area.{IsBlank, IsNoArea, head, head_of}
use Rattle.log_files.specs.Pairs.{Contents, Counts, Has, HasMore, HasNothingWhole, IsBefore, IsNewer, IsNewest}
use Rattle.log_files.specs.Pairs.{Kept, LeavesKept, LogState, MayHaveMore, MayLeave, StandsFor, begun, with_more}
use Rattle.log_files.specs.Stores.{AreKnown, WhereKnown}
use Rattle.log_files.proofs.Heads.{area_head, one_content, same_head}

-- what a pair has is of one turn
pub same_turn : {pair : Contents} {a b : Kept} → Has pair a → Has pair b → a.turn ≡ b.turn
same_turn h k = (same_head (area_head h.state) (area_head k.state)).turns

-- the first octet of a head
first_letter : (turn : ℕ) (octets behind : List ℕ) → get_or (take 24 (head turn octets ++ behind)) 0 0 ≡ 69
unfolding head_of
first_letter turn octets behind = refl

-- a head has 24 octets
long_head : (turn : ℕ) (octets behind : List ℕ) → length (take 24 (head turn octets ++ behind)) ≡ 24
unfolding head_of
long_head turn octets behind = refl

-- where no head is, nothing is kept
blank_none : {content : List ℕ} → IsBlank content → IsNoArea content
blank_none {content = content} blank turn octets a =
    let long : length (take 24 content) ≡ 24 =
    ap (λ (xs : List ℕ). length (take 24 xs)) a.content_is ∙ long_head turn octets (octets ++ a.behind) in
    let letter : get_or (take 24 content) 0 0 ≡ 69 =
    ap (λ (xs : List ℕ). get_or (take 24 xs) 0 0) a.content_is ∙ first_letter turn octets (octets ++ a.behind) in
    let zero : get_or (take 24 content) 0 0 ≡ 0 = blank 0 0 (omega arith) in
    absurd (omega arith)

-- .. and what is kept is of any earlier turn
pub blank_before : {pair : Contents} → IsBlank pair.state → (turn : ℕ) → IsBefore turn pair
blank_before blank turn kept h = absurd (blank_none blank kept.turn kept.state h.state)

-- what a pair has is before the next turn
pub before_next : {pair : Contents} {kept : Kept} → Has pair kept → IsBefore (kept.turn + 1) pair
before_next h other k = let same = same_turn h k in omega arith

-- .. if the pair is known
pub newest_before : (files : LogState) (kept : Kept) → StandsFor files kept
    → IfSome files.newest.contents (IsBefore (files.turn + 1))
newest_before files kept s = rw s.turn (go files.newest.contents s.newest)
  where
    go : (contents : Option Contents) → IfSome contents (λ pair. Has pair kept)
        → IfSome contents (IsBefore (kept.turn + 1))
    go None h = tt
    go (Some pair) h = before_next h

-- a write to the other pair failed: what stood is left, or the state of the next turn
pub leaves_one : (files files' : LogState) (kept : Kept) (state : List ℕ) → StandsFor files kept
    → files'.newest ≡ files.newest
    → WhereKnown files.other.contents files'.other.contents (MayLeave (begun (files.turn + 1) state))
    → LeavesKept files' kept ⊎ LeavesKept files' (begun (kept.turn + 1) state)
leaves_one files files' kept state s same w =
    ⊎_elim (λ l. inl (record { loaded = rw same l })) (λ l. inr (record { loaded = rw same l }))
    (go files.newest.contents files.other.contents files'.other.contents s.newest s.other (rw s.turn at w.fact))
  where
    one : (newest old new : Contents) → Has newest kept → IsBefore kept.turn old
        → MayLeave (begun (kept.turn + 1) state) old new
        → IsNewest newest new kept ⊎ IsNewest newest new (begun (kept.turn + 1) state)
    one newest old new h b (inl e) = inl (inl (h, subst (IsBefore kept.turn) (sym e) b))
    one newest old new h b (inr (inl blank)) = inl (inl (h, blank_before blank kept.turn))
    one newest old new h b (inr (inr next)) = inr (inr (next, before_next h))

    go : (newest old new : Option Contents) → IfSome newest (λ pair. Has pair kept)
        → IfSome old (IsBefore kept.turn) → AreKnown old new (MayLeave (begun (kept.turn + 1) state))
        → IfSome newest (λ n. IfSome new (λ o. IsNewest n o kept))
        ⊎ IfSome newest (λ n. IfSome new (λ o. IsNewest n o (begun (kept.turn + 1) state)))
    go None old new h b m = inl tt
    go (Some newest) old None h b m = inl tt
    go (Some newest) None (Some new) h b m = absurd m
    go (Some newest) (Some old) (Some new) h b m = one newest old new h b m

-- what the pair to which a state was written has
new_known : (old new : Option Contents) (kept : Kept) → AreKnown old new (λ _ pair. Has pair kept)
    → IfSome new (λ pair. Has pair kept)
new_known old None kept h = tt
new_known None (Some new) kept h = absurd h
new_known (Some old) (Some new) kept h = h

-- a state was written to the other pair in the next turn, and the pairs were exchanged
pub stands_next : {files files' : LogState} {kept : Kept} {state : List ℕ} → StandsFor files kept
    → files'.turn ≡ files.turn + 1 → files'.len ≡ 0 → files'.sums ≡ sums_of [] → files'.other ≡ files.newest
    → WhereKnown files.other.contents files'.newest.contents (λ _ pair. Has pair (begun (files.turn + 1) state))
    → StandsFor files' (begun (kept.turn + 1) state)
stands_next {files = files} {files' = files'} {kept = kept} {state = state} s turn len sums other w = record {
  turn = turn ∙ ap (λ (n : ℕ). n + 1) s.turn;
  len = len;
  sums = sums;
  newest = new_known files.other.contents files'.newest.contents (begun (kept.turn + 1) state) (rw s.turn at w.fact);
  other = rw (other, ← s.turn) (newest_before files kept s);
}

module _ (files files' : LogState) (kept : Kept) (octets : List ℕ) (sum : ℕ) (sums : Sums) (s : StandsFor files kept)
    (added : (before : List ℕ) → files.sums ≡ sums_of before → sums ≡ sums_of (before ++ octets))
    (summed : sum ≡ sum_of sums) (other : files'.other ≡ files.other)
  where
    -- what stands, counted
    counts : Counts files.turn files.len octets sum kept
    counts = record {
      turns = sym s.turn;
      counted = sym s.len;
      summed = sym (summed ∙ ap sum_of (added kept.records s.sums));
    }

    -- octets of records were appended
    pub stands_more : files'.turn ≡ files.turn → files'.len ≡ files.len + length octets → files'.sums ≡ sums
        → WhereKnown files.newest.contents files'.newest.contents (HasMore files.turn files.len octets sum)
        → StandsFor files' (with_more kept octets)
    stands_more turn len sums_are w = record {
      turn = turn ∙ s.turn;
      len = len ∙ ap (λ (n : ℕ). n + length octets) s.len ∙ sym (length-append kept.records octets);
      sums = sums_are ∙ added kept.records s.sums;
      newest = go files.newest.contents files'.newest.contents s.newest w.fact;
      other = rw other s.other;
    }
      where
        go : (old new : Option Contents) → IfSome old (λ pair. Has pair kept)
            → AreKnown old new (HasMore files.turn files.len octets sum)
            → IfSome new (λ pair. Has pair (with_more kept octets))
        go None None h m = tt
        go None (Some new) h m = absurd m
        go (Some old) None h m = absurd m
        go (Some old) (Some new) h m = m kept counts h

    -- .. or that failed
    pub leaves_more : WhereKnown files.newest.contents files'.newest.contents
        (MayHaveMore files.turn files.len octets sum)
        → LeavesKept files' kept ⊎ LeavesKept files' (with_more kept octets)
    leaves_more w =
        ⊎_elim (λ l. inl (record { loaded = l })) (λ l. inr (record { loaded = l }))
        (go files.newest.contents files'.newest.contents files'.other.contents s.newest (rw other s.other) w.fact)
      where
        one : (old new other : Contents) → Has old kept → IsBefore kept.turn other
            → MayHaveMore files.turn files.len octets sum old new
            → IsNewest new other kept ⊎ IsNewest new other (with_more kept octets)
        one old new other h b m =
            ⊎_elim (λ (same : Has new kept). inl (inl (same, b)))
            (λ (longer : Has new (with_more kept octets)). inr (inl (longer, b))) (m kept counts h)

        go : (old new other : Option Contents) → IfSome old (λ pair. Has pair kept)
            → IfSome other (IsBefore kept.turn) → AreKnown old new (MayHaveMore files.turn files.len octets sum)
            → IfSome new (λ n. IfSome other (λ o. IsNewest n o kept))
            ⊎ IfSome new (λ n. IfSome other (λ o. IsNewest n o (with_more kept octets)))
        go old None other h b m = inl tt
        go old (Some new) None h b m = inl tt
        go None (Some new) (Some other) h b m = absurd m
        go (Some old) (Some new) (Some other) h b m = one old new other h b m

-- what a pair has is of an earlier turn
pub before_later : {pair : Contents} {kept : Kept} {turn : ℕ} → Has pair kept → kept.turn < turn → IsBefore turn pair
before_later h less other k = let same = same_turn h k in omega arith

-- a pair has one thing
pub one_kept : {pair : Contents} {a b : Kept} → Has pair a → Has pair b → a ≡ b
one_kept {a = a} {b = b} h k =
    ap (λ (turn : ℕ). record { turn = turn; state = a.state; records = a.records }) (same_turn h k)
    ∙ ap (λ (state : List ℕ). record { turn = b.turn; state = state; records = a.records })
    (one_content h.state k.state)
    ∙ ap (λ (records : List ℕ). record { turn = b.turn; state = b.state; records = records })
    (one_content h.records k.records)

module _ {first second : Contents} where
  -- where the first pair has what is newer, this is the newest
  pub newest_first : {a : Kept} → IsNewer first second a → (kept : Kept) → IsNewest first second kept → a ≡ kept
  newest_first n kept (inl m) = one_kept n.0 m.0
  newest_first {a = a} n kept (inr m) =
      let one = m.1 a n.0 in let other = n.1 kept m.0 in absurd (omega arith)

  -- .. and where the second one has
  pub newest_second : {a : Kept} → IsNewer second first a → (kept : Kept) → IsNewest first second kept → a ≡ kept
  newest_second {a = a} n kept (inl m) =
      let one = m.1 a n.0 in let other = n.1 kept m.0 in absurd (omega arith)
  newest_second n kept (inr m) = one_kept n.0 m.0

  -- where neither has anything, nothing is newest
  pub newest_none : HasNothingWhole first → HasNothingWhole second → (kept : Kept) → IsNewest first second kept → ⊥
  newest_none none nor kept (inl m) = none kept m.0
  newest_none none nor kept (inr m) = nor kept m.0

  -- .. nor where both are of one turn
  pub newest_same : {a b : Kept} → Has first a → Has second b → a.turn ≡ b.turn → (kept : Kept)
      → IsNewest first second kept → ⊥
  newest_same {b = b} h k same kept (inl m) =
      let one = same_turn h m.0 in let other = m.1 b k in omega arith
  newest_same {a = a} h k same kept (inr m) =
      let one = same_turn k m.0 in let other = m.1 a h in omega arith

-- a pair that has something is newer than one that has nothing
pub newer_than_none : {pair other : Contents} {kept : Kept} → Has pair kept → HasNothingWhole other
    → IsNewer pair other kept
newer_than_none h none = (h, λ kept k. absurd (none kept k))

-- what stands is left
pub stands_left : {files : LogState} {kept : Kept} → StandsFor files kept → LeavesKept files kept
stands_left {files = files} {kept = kept} s =
    record { loaded = go files.newest.contents files.other.contents s.newest s.other }
  where
    go : (newest other : Option Contents) → IfSome newest (λ pair. Has pair kept)
        → IfSome other (IsBefore kept.turn) → IfSome newest (λ n. IfSome other (λ o. IsNewest n o kept))
    go None other h b = tt
    go (Some newest) None h b = tt
    go (Some newest) (Some other) h b = inl (h, b)
