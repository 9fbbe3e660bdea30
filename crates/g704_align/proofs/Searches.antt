-- Searches in a stream that goes on.
use Rattle.std.proofs.lemmas.Grind.{common_steps}
use Rattle.std.proofs.Common.{◌≡◌, ℕ, zero, suc, ◌<◌, List, [], ◌∷◌, ◌++◌, length, true, false, Option, Some, None}
use Rattle.std.proofs.Common.{refl, arith, get_or, inl, inr}
use Rattle.std.specs.Prelude.{slice_get}
use Rattle.std.proofs.lemmas.Bool.{cases_Bool, cases_lt}
use Rattle.std.proofs.lemmas.List.{append-nil}
use Rattle.g704_framing.specs.Alignment.{later}
use Rattle.g704_framing.specs.Laws.{IsFraming}
use Rattle.g704_framing.proofs.Searches.{StaysFound, later-found, FoundAfter, later-after, few-after}
use Rattle.g704_align.specs.Search.{search, confirmed, is_fas, is_nfas}
use Rattle.g704_align.specs.Loss.{frame_alignment}
use Rattle.g704_align.proofs.Wrongs.{is_third_wrong-reads}

-- the item at an index does not depend on what follows
slice_get-append : (p q : List ℕ) (i x : ℕ) → slice_get p i ≡ Some x → slice_get (p ++ q) i ≡ Some x
slice_get-append [] q i x e = cc
slice_get-append (y ∷ p) q zero x e = e
slice_get-append (y ∷ p) q (suc i) x e = slice_get-append p q i x e

-- nor if it is known to be there
pub slice_get-within : (p q : List ℕ) (i : ℕ) → i < length p → slice_get (p ++ q) i ≡ Some (get_or p i 0)
slice_get-within [] q i h = absurd (omega arith)
slice_get-within (x ∷ p) q zero h = refl
slice_get-within (x ∷ p) q (suc i) h = slice_get-within p q i (omega arith)

-- the item behind a list is at its length
pub slice_get-at : (p : List ℕ) (y : ℕ) (ys : List ℕ) → slice_get (p ++ y ∷ ys) (length p) ≡ Some y
slice_get-at [] y ys = refl
slice_get-at (x ∷ p) y ys = slice_get-at p y ys

-- if the first of the two confirming octets is wrong, the search goes on past it
pub confirmed-refuted : (x : ℕ) (f o a b : Option ℕ) → is_nfas x ≡ false → confirmed f (Some x) o a b ≡ a
confirmed-refuted x f None a b h = rw h refl
confirmed-refuted x f (Some y) a b h = rw h refl

-- also what is confirmed, or found past an octet that is wrong
confirmed-found : (f o u o' u' a b a' b' : Option ℕ) → StaysFound o o' → StaysFound u u' → StaysFound a a'
    → StaysFound b b' → StaysFound (confirmed f o u a b) (confirmed f o' u' a' b')
confirmed-found f None u o' u' a b a' b' ho hu ha hb p e = cc
confirmed-found f (Some x) u o' u' a b a' b' ho hu ha hb p e = grind (arith, common_steps)

-- later octets change nothing that is found
pub search-append : (s t : List ℕ) (from : ℕ) → StaysFound (search s from) (search (s ++ t) from)
unfolding search
search-append [] t from p e = cc
search-append (x ∷ s) t (suc from) p e = later-found (search s from) (search (s ++ t) from) (search-append s t from) p e
search-append (x ∷ s) t zero p e = elim (cases_Bool (is_fas x)) [
  | inr other ↦ rw other (later-found (search s 0) (search (s ++ t) 0) (search-append s t 0) p (rw other at e))
  | inl fas ↦ rw fas (confirmed-found (Some 0) (slice_get s 31) (slice_get s 63) (slice_get (s ++ t) 31)
      (slice_get (s ++ t) 63)
      (later (search s 32)) (later (search s 64)) (later (search (s ++ t) 32)) (later (search (s ++ t) 64))
      (slice_get-append s t 31) (slice_get-append s t 63)
      (later-found (search s 32) (search (s ++ t) 32) (search-append s t 32))
      (later-found (search s 64) (search (s ++ t) 64) (search-append s t 64)) p (rw fas at e))
]

-- also what is confirmed, or found past an octet that is wrong
confirmed-after : (count p x y : ℕ) (a b a' b' : Option ℕ) → FoundAfter 64 count a a' → FoundAfter 64 count b b'
    → FoundAfter 64 count (confirmed (Some p) (Some x) (Some y) a b) (confirmed (Some p) (Some x) (Some y) a' b')
confirmed-after count p x y a b a' b' ha hb e = grind (arith, cases_Bool (is_nfas x), cases_Bool (is_fas y))

-- later octets bring what they find themselves
pub search-after : (s t : List ℕ) (from : ℕ) → FoundAfter 64 (length s) (search s from) (search (s ++ t) from)
unfolding search
search-after [] t from e = few-after 64 0 (search t from) (omega arith)
search-after (x ∷ s) t (suc from) e =
    later-after 64 (length s) (search s from) (search (s ++ t) from) (search-after s t from) e
search-after (x ∷ s) t zero e = elim (cases_Bool (is_fas x)) [
  | inr other ↦
      rw other (later-after 64 (length s) (search s 0) (search (s ++ t) 0) (search-after s t 0) (rw other at e))
  | inl fas ↦ elim (cases_lt 63 (length s)) [
    | inr few ↦ rw fas (few-after 64 (suc (length s)) _ (omega arith))
    | inl many ↦
        let first = slice_get-within s [] 31 (omega arith) in
        let second = slice_get-within s [] 63 (omega arith) in
        rw (fas, slice_get-within s t 31 (omega arith), slice_get-within s t 63 many)
        (confirmed-after (suc (length s)) 0 (get_or s 31 0) (get_or s 63 0) (later (search s 32)) (later (search s 64))
        (later (search (s ++ t) 32)) (later (search (s ++ t) 64))
        (later-after 64 (length s) (search s 32) (search (s ++ t) 32) (search-after s t 32))
        (later-after 64 (length s) (search s 64) (search (s ++ t) 64) (search-after s t 64))
        (rw (fas, rw append-nil at first, rw append-nil at second) at e))
  ]
]

-- frame alignment is an alignment of the kind that the laws speak of
pub frame_is_framing : IsFraming frame_alignment
unfolding search
frame_is_framing = record {
  nothing = λ before from. refl;
  later = λ before octet stream from. refl;
  found = λ before stream rest from start e. search-append stream rest from start e;
  not_found = λ before stream rest from e. search-after stream rest from e;
  reads = λ octets others place same. is_third_wrong-reads octets others place same;
  whole = refl;
}

-- what is found at the head of a stream
pub search-found : (c t : List ℕ) → 64 < length c → is_fas (get_or c 0 0) ≡ true → is_nfas (get_or c 32 0) ≡ true
    → is_fas (get_or c 64 0) ≡ true → search (c ++ t) 0 ≡ Some 0
unfolding search
search-found [] t n h s g = absurd (omega arith)
search-found (y ∷ c) t n h s g =
    rw (h, slice_get-within c t 31 (omega arith), slice_get-within c t 63 (omega arith), s, g) refl
