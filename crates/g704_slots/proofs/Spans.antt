-- The alignments in the octets since the last restart: none, a present one, or one lost by the last octet.
use Rattle.std.proofs.Common.{◌≡◌, ℕ, suc, ◌+◌, ◌-◌, ◌<◌, ◌≤◌, List, [], ◌∷◌, ◌++◌, length, map, true, false}
use Rattle.std.proofs.Common.{Bool, Option, Some, None, refl, sym, ap, ◌∙◌, arith, append_assoc}
use Rattle.std.specs.Prelude.{nat_le, option_map}
use Rattle.std.proofs.lemmas.Bool.{le-leb, and_right}
use Rattle.std.proofs.lemmas.Bool.Decides.{nat_tests}
use Rattle.std.proofs.lemmas.List.{length-append, append-nil, drop_at, length_push}
use Rattle.g704_framing.specs.Alignment.{AlignmentSpan, loss, alignments_from, after_search, after_loss}
use Rattle.g704_framing.specs.Age.{age_in}
use Rattle.g704_framing.specs.Restart.{RestartsAfter, last_of, moved}
use Rattle.g704_framing.proofs.Leasts.{IsLeast, least_equals}
use Rattle.g704_framing.proofs.Turns.{alignments_turns, alignments-append, onto}
use Rattle.g704_framing.proofs.Ends.{is_lost-append}
use Rattle.g704_slots.specs.Search.{search, is_found}
use Rattle.g704_slots.specs.Loss.{is_second_in_error, slot_16}
use Rattle.g704_slots.specs.Mover.{IsAlignedRun}
use Rattle.g704_slots.proofs.Wholes.{found-within, found-append, found-behind}
use Rattle.g704_slots.proofs.Framing.{slot_16_is_framed, least-search}

-- a search that finds nothing
pub search-none : (c : List ℕ) → ((k : ℕ) → is_found c k ≡ false) → search c 0 ≡ None
search-none c none = sym (least-search c 0 None (λ k lt. and_right (nat_le 0 k) _ (none k)))

-- so there is no alignment
pub none-yet : (b : Option ℕ) (c : List ℕ) → ((k : ℕ) → is_found c k ≡ false) → alignments_from slot_16 b c 0 ≡ []
unfolding after_search
none-yet b c none = alignments_turns slot_16 slot_16_is_framed b c 0 ∙ rw (search-none c none) refl

-- an alignment at a place: it is found there, whatever follows
pub found-at : (sk al t : List ℕ) (age : ℕ) (wrong zero : Bool) → IsAlignedRun age wrong zero al
    → ((k : ℕ) → k < length sk → is_found (sk ++ al) k ≡ false) → search ((sk ++ al) ++ t) 0 ≡ Some (length sk)
found-at sk al t age wrong zero h none =
    let n = found-within al 0 h.found in
    let l : length (sk ++ al) ≡ length sk + length al = length-append sk al in
    let lt : length sk + 1984 < length (sk ++ al) = omega arith in
    let nothing : length sk ≡ length sk + 0 = omega arith in
    let here : is_found (sk ++ al) (length sk) ≡ true
    = ap (is_found (sk ++ al)) nothing ∙ found-behind sk al 0 ∙ h.found in
    let first : nat_le 0 (length sk) ≡ true = grind (arith, nat_tests) in
    sym (least-search ((sk ++ al) ++ t) 0 (Some (length sk)) (
      omega (arith, length-append (sk ++ al) t),
      rw (first, found-append (sk ++ al) t (length sk) lt) here,
      λ k less. and_right (nat_le 0 k) _ (found-append (sk ++ al) t k (omega arith) ∙ none k less),
    ))

-- the loss of an alignment, by its octets from the first one on
loss-at : (sk d : List ℕ) (o : Option ℕ) → IsLeast (is_second_in_error d) (length d) o
    → loss slot_16 (sk ++ d) (length sk) ≡ option_map (λ age. length sk + age) o
unfolding loss
loss-at sk d o h = cc (drop_at sk d (length sk) refl, least_equals (is_second_in_error d) (length d) o h)

-- a present alignment is the only one
pub one-stands : (b : Option ℕ) (sk al : List ℕ) (age : ℕ) (wrong zero : Bool) → IsAlignedRun age wrong zero al
    → ((k : ℕ) → k < length sk → is_found (sk ++ al) k ≡ false)
    → alignments_from slot_16 b (sk ++ al) 0 ≡ record { start = length sk; lost = None } ∷ []
unfolding after_search after_loss
one-stands b sk al age wrong zero h none =
    let found : search (sk ++ al) 0 ≡ Some (length sk)
    = ap (λ s. search s 0) (sym (append-nil (sk ++ al))) ∙ found-at sk al [] age wrong zero h none in
    alignments_turns slot_16 slot_16_is_framed b (sk ++ al) 0
    ∙ rw (found, loss-at sk al None h.kept) refl

-- and one that is lost by the next octet ends all
pub one-lost : (b : Option ℕ) (sk al : List ℕ) (x age : ℕ) (wrong zero : Bool) → IsAlignedRun age wrong zero al
    → ((k : ℕ) → k < length sk → is_found (sk ++ al) k ≡ false)
    → is_second_in_error (al ++ x ∷ []) (length al) ≡ true
    → (t : List ℕ) → alignments_from slot_16 b (((sk ++ al) ++ x ∷ []) ++ t) 0
    ≡ record { start = length sk; lost = Some (length sk + length al) }
    ∷ map (moved (length ((sk ++ al) ++ x ∷ []))) (alignments_from slot_16 (last_of b ((sk ++ al) ++ x ∷ [])) t 0)
unfolding after_search after_loss
one-lost b sk al x age wrong zero h none second t =
    let c = (sk ++ al) ++ x ∷ [] in
    let len : length c ≡ suc (length sk + length al) = omega (arith, length_push (sk ++ al) x, length-append sk al) in
    let la = length_push al x in
    let found : search (c ++ t) 0 ≡ Some (length sk)
    = rw (append_assoc (sk ++ al) (x ∷ []) t) (found-at sk al (x ∷ t) age wrong zero h none) in
    let parts : c ++ t ≡ sk ++ ((al ++ x ∷ []) ++ t)
    = append_assoc (sk ++ al) (x ∷ []) t ∙ append_assoc sk al (x ∷ t)
    ∙ ap (λ s. sk ++ s) (sym (append_assoc al (x ∷ []) t)) in
    let lost : loss slot_16 (c ++ t) (length sk) ≡ Some (length sk + length al)
    = ap (λ s. loss slot_16 s (length sk)) parts
    ∙ loss-at sk ((al ++ x ∷ []) ++ t) (Some (length al)) (
      omega (arith, length-append (al ++ x ∷ []) t, la),
      is_lost-append slot_16 slot_16_is_framed (al ++ x ∷ []) t (length al) (omega (arith, la)) ∙ second,
      λ k lt. is_lost-append slot_16 slot_16_is_framed (al ++ x ∷ []) t k (omega (arith, la))
          ∙ is_lost-append slot_16 slot_16_is_framed al (x ∷ []) k lt ∙ h.kept k lt,
    ) in
    alignments_turns slot_16 slot_16_is_framed b (c ++ t) 0
    ∙ rw (found, lost) (ap (onto (record { start = length sk; lost = Some (length sk + length al) }))
    (rw (← len) (alignments-append slot_16 b c t)))

-- so everything restarts after it
pub over-lost : (b : Option ℕ) (sk al : List ℕ) (x age : ℕ) (wrong zero : Bool) → IsAlignedRun age wrong zero al
    → ((k : ℕ) → k < length sk → is_found (sk ++ al) k ≡ false)
    → is_second_in_error (al ++ x ∷ []) (length al) ≡ true → RestartsAfter slot_16 b ((sk ++ al) ++ x ∷ [])
over-lost b sk al x age wrong zero h none second = record {
  earlier = record { start = length sk; lost = Some (length sk + length al) } ∷ [];
  all_lost = (omega (arith, length_push (sk ++ al) x, length-append sk al), tt);
  anew = one-lost b sk al x age wrong zero h none second;
}

-- the age of an octet in alignments that begin with this one, which is not lost
pub age-present : (first start position : ℕ) (alignments : List AlignmentSpan)
    → alignments ≡ record { start = start; lost = None } ∷ [] → start + first ≤ position
    → age_in first alignments position ≡ Some (position - start)
age-present a s n ds e h = cc (le-leb (s + a) n h)
