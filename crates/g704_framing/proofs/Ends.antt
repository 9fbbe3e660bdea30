-- Histories after which everything restarts.
use Rattle.std.proofs.Common.{rules, ◌≡◌, ℕ, suc, ◌+◌, ◌<◌, ◌≤◌, List, [], ◌∷◌, ◌++◌, length, map, true, false, Option}
use Rattle.std.proofs.Common.{Some, None, refl, sym, ap, ◌∙◌, arith, add-one, append_assoc}
use Rattle.g704_framing.proofs.Common.{option_map, cases_eq, least, Framing, AlignmentSpan, loss, alignments_from}
use Rattle.g704_framing.proofs.Common.{after_search, after_loss, moved, IsLostBefore, AllLostBefore, RestartsAfter}
use Rattle.g704_framing.proofs.Common.{last_of, IsFraming}
use Rattle.std.proofs.lemmas.List.{append-nil, length-append, length_push, map-append, get_or_append_left}
use Rattle.g704_framing.proofs.Leasts.{IsLeast, least_equals}
use Rattle.g704_framing.proofs.Moves.{option_map-zero, map-moved_zero, map-moved_add}
use Rattle.g704_framing.proofs.Turns.{alignments_turns, alignments-append}

-- the empty history is over
pub RestartsAfter-nil : (framing : Framing) (before : Option ℕ) → RestartsAfter framing before []
RestartsAfter-nil f b = search (rules, map-moved_zero)

-- what is lost before a position is lost before a later one
lost_later : (m n : ℕ) (o : Option ℕ) → m ≤ n → IsLostBefore m o → IsLostBefore n o
lost_later m n o h g = search rules

-- also if both are counted from further back
lost_moved : (m n : ℕ) (o : Option ℕ) → IsLostBefore n o → IsLostBefore (m + n) (option_map (λ k. m + k) o)
lost_moved m n o g = search rules

-- the same of all alignments of a list
all_later : (m n : ℕ) (ds : List AlignmentSpan) → m ≤ n → AllLostBefore m ds → AllLostBefore n ds
all_later m n [] h g = tt
all_later m n (d ∷ ds) h g = (lost_later m n d.lost h g.0, all_later m n ds h g.1)

-- and with positions counted from further back
all_moved : (m n : ℕ) (ds : List AlignmentSpan) → AllLostBefore n ds → AllLostBefore (m + n) (map (moved m) ds)
all_moved m n [] g = tt
all_moved m n (d ∷ ds) g = (lost_moved m n d.lost g.0, all_moved m n ds g.1)

-- and of two lists, one after the other
all_append : (n : ℕ) (ds es : List AlignmentSpan) → AllLostBefore n ds → AllLostBefore n es
    → AllLostBefore n (ds ++ es)
all_append n [] es g h = h
all_append n (d ∷ ds) es g h = (g.0, all_append n ds es g.1 h)

-- the last octet of two lists, one after the other
pub last_of-append : (before : Option ℕ) (octets others : List ℕ)
    → last_of before (octets ++ others) ≡ last_of (last_of before octets) others
last_of-append b [] c = refl
last_of-append b (x ∷ a) c = last_of-append (Some x) a c

-- the last octet is the one that was added last
pub last_of-push : (before : Option ℕ) (octets : List ℕ) (octet : ℕ)
    → last_of before (octets ++ octet ∷ []) ≡ Some octet
last_of-push b c x = last_of-append b c (x ∷ [])

-- everything restarts after two histories that are both over
pub RestartsAfter-append : (framing : Framing) (before : Option ℕ) (octets others : List ℕ)
    → RestartsAfter framing before octets
    → RestartsAfter framing (last_of before octets) others → RestartsAfter framing before (octets ++ others)
RestartsAfter-append f o a b p q = record {
  earlier = p.earlier ++ map (moved (length a)) q.earlier;
  all_lost = rw (length-append a b) (all_append (length a + length b) p.earlier (map (moved (length a)) q.earlier)
      (all_later (length a) (length a + length b) p.earlier (omega arith) p.all_lost)
      (all_moved (length a) (length b) q.earlier q.all_lost));
  anew = λ t.
      let others = alignments_from f (last_of (last_of o a) b) t 0 in
      rw (append_assoc a b t, length-append a b, last_of-append o a b)
      (p.anew (b ++ t)
      ∙ ap (λ ds. p.earlier ++ map (moved (length a)) ds) (q.anew t)
      ∙ ap (λ ds. p.earlier ++ ds) (map-append (moved (length a)) q.earlier (map (moved (length b)) others))
      ∙ ap (λ ds. p.earlier ++ (map (moved (length a)) q.earlier ++ ds)) (map-moved_add (length a) (length b) others)
      ∙ sym (append_assoc p.earlier (map (moved (length a)) q.earlier) (map (moved (length a + length b)) others)));
}

-- if the search passes over the whole history, it is over
pub RestartsAfter-passed : (framing : Framing) → IsFraming framing → (before : Option ℕ) (octets : List ℕ)
    → ((rest : List ℕ)
    → framing.search before (octets ++ rest) 0 ≡ framing.search before (octets ++ rest) (length octets))
    → RestartsAfter framing before octets
RestartsAfter-passed f h b c passed = record {
  earlier = [];
  all_lost = tt;
  anew = λ t.
      alignments_turns f h b (c ++ t) 0
      ∙ ap (after_search f b (c ++ t)) (passed t)
      ∙ sym (alignments_turns f h b (c ++ t) (length c))
      ∙ alignments-append f b c t;
}

-- whether it is lost at an octet does not depend on later ones
pub is_lost-append : (f : Framing) → IsFraming f → (c t : List ℕ) (k : ℕ) → k < length c
    → f.is_lost (c ++ t) k ≡ f.is_lost c k
is_lost-append f h c t k lt = h.reads (c ++ t) c k (λ j le e. get_or_append_left c t 0 j (omega arith))

-- an alignment that was not lost so far, and is not by one octet more
pub kept-more : (framing : Framing) → IsFraming framing → (octets : List ℕ) (octet : ℕ)
    → ((position : ℕ) → position < length octets → framing.is_lost octets position ≡ false)
    → framing.is_lost (octets ++ octet ∷ []) (length octets) ≡ false
    → (position : ℕ) → position < length (octets ++ octet ∷ [])
    → framing.is_lost (octets ++ octet ∷ []) position ≡ false
kept-more f h c x kept now k lt = search (rules, cases_eq, length_push, is_lost-append)

-- the loss of an alignment at the head of the stream
pub loss-head : (f : Framing) (s : List ℕ) (o : Option ℕ) → IsLeast (f.is_lost s) (length s) o → loss f s 0 ≡ o
unfolding loss
loss-head f s o h = option_map-zero (least (f.is_lost s) (length s)) ∙ least_equals (f.is_lost s) (length s) o h

-- an alignment at the head of the stream that is lost by the last octet
pub RestartsAfter-lost : (framing : Framing) → IsFraming framing → (before : Option ℕ) (octets : List ℕ) (octet : ℕ)
    → ((rest : List ℕ) → framing.search before (octets ++ rest) 0 ≡ Some 0)
    → ((position : ℕ) → position < length octets → framing.is_lost octets position ≡ false)
    → framing.is_lost (octets ++ octet ∷ []) (length octets) ≡ true
    → RestartsAfter framing before (octets ++ octet ∷ [])
unfolding after_search after_loss
RestartsAfter-lost f h b c x found kept lost =
    let len : length (c ++ x ∷ []) ≡ suc (length c) = length-append c (x ∷ []) ∙ add-one (length c) in
    record {
      earlier = record { start = 0; lost = Some (length c) } ∷ [];
      all_lost = (omega (arith, len), tt);
      anew = λ t.
          let is_found : f.search b ((c ++ x ∷ []) ++ t) 0 ≡ Some 0 = rw (append_assoc c (x ∷ []) t) (found (x ∷ t)) in
          let is_lost : loss f ((c ++ x ∷ []) ++ t) 0 ≡ Some (length c)
          = loss-head f ((c ++ x ∷ []) ++ t) (Some (length c)) (
            omega (arith, length-append (c ++ x ∷ []) t, len),
            is_lost-append f h (c ++ x ∷ []) t (length c) (omega (arith, len)) ∙ lost,
            λ k lt. is_lost-append f h (c ++ x ∷ []) t k (omega (arith, len)) ∙ is_lost-append f h c (x ∷ []) k lt
                ∙ kept k lt,
          ) in
          alignments_turns f h b ((c ++ x ∷ []) ++ t) 0
          ∙ rw (is_found, is_lost) (cc (alignments-append f b (c ++ x ∷ []) t));
    }

-- an alignment at the head of the stream that is not lost is the only one
pub alignments-standing : (framing : Framing) → IsFraming framing → (before : Option ℕ) (octets : List ℕ)
    → ((rest : List ℕ) → framing.search before (octets ++ rest) 0 ≡ Some 0)
    → ((position : ℕ) → position < length octets → framing.is_lost octets position ≡ false)
    → alignments_from framing before octets 0 ≡ record { start = 0; lost = None } ∷ []
unfolding after_search after_loss
alignments-standing f h b c found kept =
    grind (arith, append-nil c, loss-head f c None kept, alignments_turns f h b c 0)
