-- Octets repeated from a multiframe before, as those of the last multiframe in turn.
use Rattle.std.proofs.Common.{rules, ◌≡◌, ℕ, zero, suc, ◌+◌, ◌-◌, ◌%◌, ◌≤◌, ◌<◌, List, [], ◌∷◌, ◌++◌, length, drop}
use Rattle.std.proofs.Common.{slice_index, slice_set, drop-cons, length-drop, refl, sym, ap, ◌∙◌, arith, inl, inr}
use Rattle.std.proofs.Common.{append_assoc, append-nil, length-append}
use Rattle.std.proofs.Math.Seq.{set-append_seam}
use Rattle.std.proofs.lemmas.Bool.{cases_lt}
use Rattle.std.proofs.lemmas.List.{get_or_append_left, get_or-append-add, get_or-drop}
use Rattle.circular_buffer.specs.Buffer.{keep_last}
use Rattle.satop_playout.specs.Replacement.{again}

-- the octet that follows these
abbrev pub next_again : List ℕ → ℕ
next_again given = slice_index given (length given - 512)

-- as many octets as are asked for
pub length-again : (count : ℕ) (given : List ℕ) → length (again count given) ≡ count
unfolding again
length-again zero given = refl
length-again (suc count) given =
    ap (λ (n : ℕ). suc n) (length-again count (given ++ next_again given ∷ []))

-- one more
pub again-push : (count : ℕ) (given : List ℕ)
    → again (suc count) given ≡ again count given ++ next_again (given ++ again count given) ∷ []
unfolding again
again-push zero given = ap (λ (xs : List ℕ). next_again xs ∷ []) (sym (append-nil given))
again-push (suc count) given =
    let first = next_again given in
    let more = given ++ next_again given ∷ [] in
    ap (λ (xs : List ℕ). first ∷ xs) (again-push count more)
    ∙ ap (λ (xs : List ℕ). first ∷ again count more ++ next_again xs ∷ [])
    (append_assoc given (first ∷ []) (again count more))

-- octets and those that follow them
given-size : (count : ℕ) (given : List ℕ) → length (given ++ again count given) ≡ length given + count
given-size count given =
    length-append given (again count given) ∙ ap (λ (n : ℕ). length given + n) (length-again count given)

-- all of them are those of the last multiframe, in turn
pub again-turns : (count k : ℕ) (given : List ℕ) → 512 ≤ length given → k < 512 + count
    → slice_index (given ++ again count given) (length given - 512 + k)
    ≡ slice_index given (length given - 512 + k % 512)
unfolding again
again-turns zero k given many near = grind (arith, append-nil given)
again-turns (suc count) k given many near =
    let all = given ++ again count given in
    let last = next_again all in
    let size = given-size count given in
    let whole : given ++ again (suc count) given ≡ all ++ last ∷ [] =
    ap (λ (xs : List ℕ). given ++ xs) (again-push count given)
    ∙ sym (append_assoc given (again count given) (last ∷ [])) in
    ap (λ (xs : List ℕ). slice_index xs (length given - 512 + k)) whole
    ∙ elim (cases_lt k (512 + count)) as (λ _. slice_index (all ++ last ∷ []) (length given - 512 + k)
    ≡ slice_index given (length given - 512 + k % 512)) [
      | inl h ↦ get_or_append_left all (last ∷ []) 0 (length given - 512 + k) (omega arith)
          ∙ again-turns count k given many h
      | inr h ↦
          let at : length given - 512 + k ≡ length all + 0 = omega arith in
          let back : length all - 512 ≡ length given - 512 + count = omega arith in
          let turn : length given - 512 + count % 512 ≡ length given - 512 + k % 512 = omega arith in
          ap (λ (n : ℕ). slice_index (all ++ last ∷ []) n) at ∙ get_or-append-add all (last ∷ []) 0 0
          ∙ ap (λ (n : ℕ). slice_index all n) back ∙ again-turns count count given many (omega arith)
          ∙ ap (λ (n : ℕ). slice_index given n) turn
    ]

-- .. so the next one is the octet of its turn among the last 512
pub again-next : (count : ℕ) (given : List ℕ) → 512 ≤ length given
    → next_again (given ++ again count given) ≡ slice_index (keep_last 512 given) (count % 512)
again-next count given many = search (rules, given-size, again-turns, get_or-drop)

-- if the last 512 octets are 512, as many were given
pub last-many : (given : List ℕ) (count : ℕ) → count ≡ length (keep_last 512 given) → 512 ≤ count → 512 ≤ length given
last-many given count e many = let size = length-drop (length given - 512) given in omega arith

-- one octet is repeated more: it is written where the room is free
pub repeated-more : (i : ℕ) (given room was : List ℕ) (octet : ℕ) → i < length was
    → room ≡ again i given ++ drop i was → octet ≡ next_again (given ++ again i given)
    → slice_set room i octet ≡ again (i + 1) given ++ drop (i + 1) was
repeated-more i given room was octet within is e =
    grind (
      arith,
      length-again i given,
      drop-cons was i 0 within,
      set-append_seam (again i given) (slice_index was i) (drop (suc i) was) octet,
      append_assoc (again i given) (next_again (given ++ again i given) ∷ []) (drop (suc i) was),
      again-push i given,
    )
