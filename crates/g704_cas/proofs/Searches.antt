-- Searches in octets that go on.
use Rattle.std.proofs.Common.{◌≡◌, ℕ, zero, suc, ◌<◌, List, [], ◌∷◌, ◌++◌, length, true, Option, Some, refl, arith}
use Rattle.std.proofs.Common.{get_or}
use Rattle.std.specs.Prelude.{◌&&◌}
use Rattle.std.proofs.lemmas.Bool.{cases_Bool}
use Rattle.g704_framing.specs.Laws.{IsFraming}
use Rattle.g704_framing.proofs.Searches.{StaysFound, later-found, FoundAfter, later-after, few-after}
use Rattle.g704_cas.specs.Search.{search, is_mfas, is_not_zero}
use Rattle.g704_cas.specs.Loss.{multiframe_alignment}
use Rattle.g704_cas.proofs.Wrongs.{is_second_wrong-reads}

-- later octets change nothing that is found
search-append : (b : Option ℕ) (s t : List ℕ) (from : ℕ) → StaysFound (search b s from) (search b (s ++ t) from)
unfolding search
search-append b [] t from p e = cc
search-append b (x ∷ s) t (suc from) p e =
    later-found (search (Some x) s from) (search (Some x) (s ++ t) from) (search-append (Some x) s t from) p e
search-append b (x ∷ s) t zero p e =
    grind (arith, cases_Bool (is_mfas x && is_not_zero b), search-append (Some x) s t 0)

-- later octets bring what they find themselves
search-after : (b : Option ℕ) (s t : List ℕ) (from : ℕ)
    → FoundAfter 0 (length s) (search b s from) (search b (s ++ t) from)
unfolding search
search-after b [] t from e = few-after 0 0 (search b t from) (omega arith)
search-after b (x ∷ s) t (suc from) e =
    later-after 0 (length s) (search (Some x) s from) (search (Some x) (s ++ t) from) (search-after (Some x) s t from) e
search-after b (x ∷ s) t zero e = grind (arith, cases_Bool (is_mfas x && is_not_zero b), search-after (Some x) s t 0)

-- multiframe alignment is an alignment of the kind that the laws speak of
pub multiframe_is_framing : IsFraming multiframe_alignment
unfolding search
multiframe_is_framing = record {
  nothing = λ before from. refl;
  later = λ before octet stream from. refl;
  found = λ before stream rest from start e. search-append before stream rest from start e;
  not_found = λ before stream rest from e. search-after before stream rest from e;
  reads = λ octets others place same. is_second_wrong-reads octets others place same;
  whole = refl;
}

-- what is found at the head of a list
pub search-found : (b : Option ℕ) (c t : List ℕ) → 0 < length c → is_not_zero b ≡ true → is_mfas (get_or c 0 0) ≡ true
    → search b (c ++ t) 0 ≡ Some 0
unfolding search
search-found b [] t n h r = absurd (omega arith)
search-found b (x ∷ c) t n h r = rw (h, r) refl
