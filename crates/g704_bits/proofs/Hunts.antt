-- One more window without alignment.
use Rattle.std.proofs.Common.{rules, ◌≡◌, ℕ, ◌+◌, ◌-◌, ◌<◌, ◌≤◌, ◌%◌, List, [], ◌∷◌, ◌++◌, length, take, drop, true}
use Rattle.std.proofs.Common.{false, refl, sym, ap, ◌∙◌, arith, inl, inr, append_assoc, length-drop}
use Rattle.std.specs.Prelude.{slice_index, slice_set}
use Rattle.std.proofs.lemmas.Bool.{cases_Bool, cases_lt, cases_eq, le-leb, lt-ltb, le-ltb}
use Rattle.std.proofs.lemmas.Grind.{common_steps}
use Rattle.std.proofs.lemmas.List.{length_push, get_or_append_left, get_or_push, length-set, get_or-set_same}
use Rattle.std.proofs.lemmas.List.{get_or-set_other, take-append-drop, length-take-le}
use Rattle.g704_align.specs.Search.{is_fas}
use Rattle.g704_bits.specs.Search.{is_confirmed}
use Rattle.g704_bits.specs.Aligner.{IsHunting, IsAligned, next_seen, confirms}
use Rattle.g704_bits.proofs.Framing.{confirmed-within, confirmed-append, confirmed-behind}
use Rattle.g704_bits.proofs.Steps.{alignment-found}

-- no window came
pub hunting-nothing : (memory : List ℕ) → length memory ≡ 512 → IsHunting 0 memory []
unfolding is_confirmed is_fas
hunting-nothing memory l = grind (arith, common_steps)

-- the count after one more, in both cases
next_seen-low : (seen : ℕ) → seen < 1023 → next_seen seen ≡ seen + 1
next_seen-low seen lt = rw (lt-ltb seen 1023 lt) refl

-- and if it is the last
next_seen-last : (seen : ℕ) → 1023 ≤ seen → next_seen seen ≡ 512
next_seen-last seen ge = rw (le-ltb seen 1023 ge) refl

-- what the memory says is what the windows say
pub confirms-is : (seen : ℕ) (memory c : List ℕ) (x p : ℕ) → IsHunting seen memory c → p + 512 ≡ length c
    → is_confirmed (c ++ x ∷ []) p ≡ confirms seen memory x
unfolding is_confirmed
confirms-is seen memory c x p h e = search (rules, cases_lt, le-leb, get_or_append_left, get_or_push)

-- nothing is confirmed by the window
none-more : (seen : ℕ) (memory c : List ℕ) (x : ℕ) → IsHunting seen memory c → confirms seen memory x ≡ false
    → (p : ℕ) → is_confirmed (c ++ x ∷ []) p ≡ false
none-more seen memory c x h quiet p = elim (cases_lt (p + 512) (length c)) [
  | inl lt ↦ confirmed-append c (x ∷ []) p lt ∙ h.none p
  | inr ge ↦ elim (cases_eq (p + 512) (length c)) [
    | inl e ↦ confirms-is seen memory c x p h e ∙ quiet
    | inr ne ↦ elim (cases_Bool (is_confirmed (c ++ x ∷ []) p)) [
      | inr wrong ↦ wrong
      | inl right ↦ absurd (let w = confirmed-within (c ++ x ∷ []) p right in let l = length_push c x in omega arith)
    ]
  ]
]

-- the memory after the window
kept-more : (seen : ℕ) (memory c : List ℕ) (x : ℕ) → IsHunting seen memory c
    → (p : ℕ) → p < length (c ++ x ∷ []) → length (c ++ x ∷ []) ≤ p + 512
    → slice_index (slice_set memory (seen % 512) x) (p % 512) ≡ slice_index (c ++ x ∷ []) p
kept-more seen memory c x h p lt le =
    search (rules, cases_eq, get_or-set_same, get_or_push, length_push, get_or-set_other, get_or_append_left)

-- the fields after the window
pub hunting-more : (seen : ℕ) (memory c : List ℕ) (x : ℕ) → IsHunting seen memory c
    → confirms seen memory x ≡ false → IsHunting (next_seen seen) (slice_set memory (seen % 512) x) (c ++ x ∷ [])
hunting-more seen memory c x h quiet =
    let l = length_push c x in let r = h.rest in let s = h.limit in
    elim (cases_lt seen 1023) [
      | inl low ↦ let n1 = next_seen-low seen low in
          record {
            limit = omega arith;
            rest = omega arith;
            few = λ lt. (let f = h.few (omega arith) in omega arith);
            many = λ le. (grind (arith, cases_lt seen 512));
            room = length-set memory (seen % 512) x ∙ h.room;
            kept = kept-more seen memory c x h;
            none = none-more seen memory c x h quiet;
          }
      | inr last ↦ let n1 = next_seen-last seen last in
          record {
            limit = omega arith;
            rest = omega arith;
            few = λ lt. absurd (omega arith);
            many = λ le. (let f = h.many (omega arith) in omega arith);
            room = length-set memory (seen % 512) x ∙ h.room;
            kept = kept-more seen memory c x h;
            none = none-more seen memory c x h quiet;
          }
    ]

-- the count is large enough if the window confirms
enough-seen : (seen : ℕ) (memory : List ℕ) (x : ℕ) → confirms seen memory x ≡ true → 512 ≤ seen
enough-seen seen memory x h = grind (arith, common_steps)

-- the places of the first two windows of three
pub aligned-found : (seen : ℕ) (memory c : List ℕ) (x : ℕ) → IsHunting seen memory c
    → confirms seen memory x ≡ true → (a : IsAligned 1 0 0 (c ++ x ∷ [])) × (length a.skipped + 512 ≡ length c)
aligned-found seen memory c x h sure =
    let long = h.many (enough-seen seen memory x sure) in
    let p = length c - 512 in
    let sk = take p c in
    let al = drop p c ++ x ∷ [] in
    let at : length sk ≡ p = length-take-le p c (omega arith) in
    let whole : c ++ x ∷ [] ≡ sk ++ al
    = ap (λ (s : List ℕ). s ++ x ∷ []) (sym (take-append-drop p c)) ∙ append_assoc sk (drop p c) (x ∷ []) in
    let here : is_confirmed (c ++ x ∷ []) (length sk) ≡ true
    = confirms-is seen memory c x (length sk) h (omega arith) ∙ sure in
    let first : is_confirmed al 0 ≡ true
    = sym (confirmed-behind sk al) ∙ ap (λ s. is_confirmed s (length sk)) (sym whole) ∙ here in
    let len : length al ≡ 513 = omega (arith, length_push (drop p c) x, length-drop p c) in (
      record {
        skipped = sk;
        aligned = al;
        whole = whole;
        none = λ k lt. confirmed-append c (x ∷ []) k (omega arith) ∙ h.none k;
        fields = alignment-found al len first;
      },
      omega arith,
    )
