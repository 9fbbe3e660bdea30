-- Octets of a slice that a filter replaces in place, one after another.
use Rattle.std.proofs.lemmas.Grind.{common_steps}
use Rattle.std.proofs.Common.{◌≡◌, ◌+◌, ◌<◌, ◌≤◌, ◌++◌, ◌∷◌, ◌∙◌, ℕ, suc, List, [], length, take, drop, get_or}
use Rattle.std.proofs.Common.{slice_set, sym, ap, arith, subst, append_assoc}
use Rattle.std.proofs.Math.Seq.{take-suc, drop-cons, set-append_seam, get_or-append_seam}
use Rattle.std.proofs.lemmas.List.{length-set, length-take-le}
use Rattle.g704_framing.specs.Replies.{replies_after}
use Rattle.g704_framing.proofs.Replies.{length-replies, replies-append}

-- The octets up to a place are replaced, the others are as they were.
pub record IsFilteredTo {F : Type 0} (Has : F → List ℕ → Type 0) (reply : List ℕ → ℕ → ℕ) (first filter : F)
    (old now : List ℕ) (i : ℕ) : Type 0 where
  pub len : length now ≡ length old
  pub within : i ≤ length old
  pub octets : (history : List ℕ) → Has first history
      → now ≡ replies_after reply history (take i old) ++ drop i old
  pub stands : (history : List ℕ) → Has first history → Has filter (history ++ take i old)

-- So far none is.
pub none_filtered : {F : Type 0} {Has : F → List ℕ → Type 0} {reply : List ℕ → ℕ → ℕ} (first : F) (old : List ℕ)
    → IsFilteredTo Has reply first first old old 0
unfolding replies_after
none_filtered {Has = Has} first old = grind (arith, common_steps)

-- The next octet of the slice is replaced.
pub one_more : {F : Type 0} {Has : F → List ℕ → Type 0} {reply : List ℕ → ℕ → ℕ} (first filter after : F)
    (old now : List ℕ) (i octet : ℕ) → IsFilteredTo Has reply first filter old now i → i < length now
    → ((history : List ℕ) → Has filter history → octet ≡ reply history (get_or now i 0))
    → ((history : List ℕ) → Has filter history → Has after (history ++ get_or now i 0 ∷ []))
    → IsFilteredTo Has reply first after old (slice_set now i octet) (i + 1)
unfolding replies_after
one_more {Has = Has} {reply = reply} first filter after old now i octet so lt replies stands = record {
  len = length-set now i octet ∙ so.len;
  within = omega (arith, so.len);
  octets = λ history s.
      let done = replies_after reply history (take i old) in
      let long = replies-len history in
      let here = same history s in
      let all : octet ≡ reply (history ++ take i old) (get_or old i 0)
      = replies (history ++ take i old) (so.stands history s)
      ∙ ap (λ (y : ℕ). reply (history ++ take i old) y) here in
      ap (λ (xs : List ℕ). slice_set xs i octet) (split history s)
      ∙ ap (λ (k : ℕ). slice_set (done ++ get_or old i 0 ∷ drop (suc i) old) k octet) (sym long)
      ∙ set-append_seam done (get_or old i 0) (drop (suc i) old) octet
      ∙ ap (λ (y : ℕ). done ++ y ∷ drop (suc i) old) all
      ∙ sym (append_assoc done (reply (history ++ take i old) (get_or old i 0) ∷ []) (drop (suc i) old))
      ∙ ap (λ (xs : List ℕ). xs ++ drop (suc i) old)
      (sym (replies-append reply history (take i old) (get_or old i 0 ∷ []))
      ∙ ap (replies_after reply history) (sym next))
      ∙ ap (λ (k : ℕ). replies_after reply history (take k old) ++ drop k old) (sym one);
  stands = λ history s.
      subst (Has after) (append_assoc history (take i old) (get_or now i 0 ∷ [])
      ∙ ap (λ (y : ℕ). history ++ (take i old ++ y ∷ [])) (same history s)
      ∙ ap (λ (xs : List ℕ). history ++ xs) (sym next) ∙ ap (λ (k : ℕ). history ++ take k old) (sym one))
      (stands (history ++ take i old) (so.stands history s));
}
  where
    one : i + 1 ≡ suc i
    one = omega arith

    next : take (suc i) old ≡ take i old ++ get_or old i 0 ∷ []
    next = take-suc old i 0 (omega (arith, so.len))

    replies-len : (history : List ℕ) → length (replies_after reply history (take i old)) ≡ i
    replies-len history = length-replies reply history (take i old) ∙ length-take-le i old so.within

    split : (history : List ℕ) → Has first history
        → now ≡ replies_after reply history (take i old) ++ get_or old i 0 ∷ drop (suc i) old
    split history s = so.octets history s
        ∙ ap (λ (xs : List ℕ). replies_after reply history (take i old) ++ xs)
        (drop-cons old i 0 (omega (arith, so.len)))

    same : (history : List ℕ) → Has first history → get_or now i 0 ≡ get_or old i 0
    same history s =
        let done = replies_after reply history (take i old) in
        ap (λ (xs : List ℕ). get_or xs i 0) (split history s)
        ∙ ap (λ (k : ℕ). get_or (done ++ get_or old i 0 ∷ drop (suc i) old) k 0) (sym (replies-len history))
        ∙ get_or-append_seam done (get_or old i 0) (drop (suc i) old) 0
