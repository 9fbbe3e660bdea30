-- A search, one octet more.
use Rattle.std.proofs.Common.{rules, ◌≡◌, ◌⊎◌, ℕ, ◌+◌, ◌-◌, ◌<◌, ◌≤◌, List, [], ◌∷◌, ◌++◌, length, take, drop, min}
use Rattle.std.proofs.Common.{true, false, sym, ap, ◌∙◌, arith, inl, inr, append_assoc, length-drop}
use Rattle.std.proofs.lemmas.Grind.{common_steps}
use Rattle.std.proofs.lemmas.Bool.{cases_Bool, cases_lt, cases_eq}
use Rattle.std.proofs.lemmas.List.{length_push, take-append-drop, length-take-le}
use Rattle.g704_slots.specs.Search.{is_whole, is_found}
use Rattle.g704_slots.specs.Mover.{IsSearching, IsAligned}
use Rattle.g704_slots.proofs.Wholes.{whole-parts, whole-append, parts-found, not-found, not-alone, found-within}
use Rattle.g704_slots.proofs.Wholes.{found-append, found-behind}
use Rattle.g704_slots.proofs.Steps.{alignment-found}

-- too few octets for four multiframes
pub few-none : (c : List ℕ) (p : ℕ) → length c ≤ p + 1984 → is_found c p ≡ false
few-none c p le = search (rules, cases_Bool, found-within)

-- no octet came
pub searching-nothing : IsSearching 0 0 []
searching-nothing = search (rules, few-none)

-- four multiframes are found by the octet, or not at all
none-more : (seen alone : ℕ) (c : List ℕ) (x : ℕ) → IsSearching seen alone c
    → ((p : ℕ) → p + 1984 ≡ length c → is_found (c ++ x ∷ []) p ≡ false)
    → (p : ℕ) → is_found (c ++ x ∷ []) p ≡ false
none-more seen alone c x h quiet p = search (rules, cases_lt, found-append, cases_eq, few-none, length_push)

-- one octet more, too few for three
pub searching-few : (seen alone : ℕ) (c : List ℕ) (x : ℕ) → IsSearching seen alone c → seen < 1488
    → IsSearching (seen + 1) 0 (c ++ x ∷ [])
searching-few seen alone c x h few = search (rules, length_push, few-none)

-- one behind three, which are not the last of four
pub searching-whole : (seen alone : ℕ) (c : List ℕ) (x : ℕ) → IsSearching seen alone c → 1488 ≤ seen
    → is_whole (c ++ x ∷ []) (length c - 1488) ≡ true → (seen < 1984) ⊎ (alone < 495)
    → IsSearching (min seen 1983 + 1) 0 (c ++ x ∷ [])
searching-whole seen alone c x h enough whole few =
    let l = length_push c x in
    let n = h.counted in
    record {
      counted = omega arith;
      none = none-more seen alone c x h (λ p e. elim few [
        | inl lt ↦ absurd (omega arith)
        | inr lt ↦ elim (h.last lt) [
          | inl le ↦ absurd (omega arith)
          | inr w ↦
              let at : p + 1 + (494 - alone) ≡ length c - alone - 1489 = omega arith in
              not-alone (c ++ x ∷ []) p (494 - alone) (omega arith)
              (ap (is_whole (c ++ x ∷ [])) at
              ∙ whole-append c (x ∷ []) (length c - alone - 1489) (whole-parts c (length c - alone - 1489) w).0 ∙ w)
        ]
      ]);
      most = omega arith;
      others = λ s lt le. absurd (omega arith);
      last = λ lt. inr (grind (arith, common_steps));
    }

-- and one that is not
pub searching-other : (seen alone : ℕ) (c : List ℕ) (x : ℕ) → IsSearching seen alone c → 1488 ≤ seen
    → is_whole (c ++ x ∷ []) (length c - 1488) ≡ false
    → IsSearching (min seen 1983 + 1) (min alone 494 + 1) (c ++ x ∷ [])
searching-other seen alone c x h enough other =
    search (rules, length_push, none-more, not-found, cases_lt, whole-append, whole-parts)

-- slot 16 is found by the octet
pub searching-found : (seen alone : ℕ) (c : List ℕ) (x : ℕ) → IsSearching seen alone c
    → 1984 ≤ seen → 495 ≤ alone → is_whole (c ++ x ∷ []) (length c - 1488) ≡ true
    → (a : IsAligned 0 30 false true (c ++ x ∷ [])) × (length a.aligned ≡ 1985)
searching-found seen alone c x h enough apart whole =
    let n = h.counted in
    let many : 1984 ≤ length c = omega arith in
    let p = length c - 1984 in
    let sk = take p c in
    let al = drop p c ++ x ∷ [] in
    let at : length sk ≡ p = length-take-le p c (omega arith) in
    let parts : c ++ x ∷ [] ≡ sk ++ al
    = ap (λ (s : List ℕ). s ++ x ∷ []) (sym (take-append-drop p c)) ∙ append_assoc sk (drop p c) (x ∷ []) in
    let three : p + 496 ≡ length c - 1488 = omega arith in
    let here : is_found (c ++ x ∷ []) p ≡ true
    = parts-found (c ++ x ∷ []) p (ap (is_whole (c ++ x ∷ [])) three ∙ whole)
    (λ j lt. whole-append c (x ∷ []) (p + 1 + j) (omega arith) ∙ h.others (p + 1 + j) (omega arith) (omega arith)) in
    let start : length sk + 0 ≡ p = omega arith in
    let first : is_found al 0 ≡ true
    = sym (found-behind sk al 0) ∙ ap (is_found (sk ++ al)) start ∙ ap (λ s. is_found s p) (sym parts) ∙ here in
    let len : length al ≡ 1985 = omega (arith, length_push (drop p c) x, length-drop p c) in (
      record {
        skipped = sk;
        aligned = al;
        whole = parts;
        none = λ k lt. found-append c (x ∷ []) k (omega arith) ∙ h.none k;
        fields = alignment-found al len first;
      },
      len,
    )
