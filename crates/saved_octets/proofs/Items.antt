-- Items saved one after the other, and read back.
use Rattle.std.proofs.Common.{◌≡◌, ℕ, ◌/◌, ◌%◌, ◌≤◌, ◌<◌, List, [], ◌∷◌, ◌++◌, length, refl, sym, ap, ◌∙◌}
use Rattle.std.proofs.Common.{arith, append_assoc, append-nil, length-append, subst, All, flat_map, ◌^◌}
use Rattle.std.proofs.lemmas.Grind.{flat_map-append}
use Rattle.std.proofs.lemmas.List.Elements.{All-head, All-tail}
use Rattle.saved_octets.specs.Numbers.{two_octets}

-- the octets of an item and of what is behind it determine both
abbrev pub Tells : {A : Type 0} → (A → Type 0) → (A → List ℕ) → Type 0
Tells {A = A} P octets =
    (x y : A) (r s : List ℕ) → P x → P y → octets x ++ r ≡ octets y ++ s → (x ≡ y) × (r ≡ s)

-- the octets of items and of one more
pub saved-push : {A : Type 0} (octets : A → List ℕ) (xs : List A) (x : A)
    → flat_map octets (xs ++ x ∷ []) ≡ flat_map octets xs ++ octets x
saved-push {A = A} octets xs x =
    flat_map-append octets xs (x ∷ []) ∙ ap (λ (os : List ℕ). flat_map octets xs ++ os) (append-nil (octets x))

-- Octets that begin with no more items than others determine these: the rest of them begins with the rest of those
-- items.
pub prefix : {A : Type 0} (P : A → Type 0) (octets : A → List ℕ) (xs ys : List A) (r s : List ℕ)
    → Tells P octets → All P xs → All P ys → flat_map octets xs ++ r ≡ flat_map octets ys ++ s
    → length xs ≤ length ys → (zs : List A) × (ys ≡ xs ++ zs) × (r ≡ flat_map octets zs ++ s)
prefix P octets [] ys r s tells these those e less = (ys, refl, e)
prefix P octets (x ∷ xs) [] r s tells these those e less = absurd (omega arith)
prefix {A = A} P octets (x ∷ xs) (y ∷ ys) r s tells these those e less =
    let both = tells x y (flat_map octets xs ++ r) (flat_map octets ys ++ s) (All-head P x xs these)
    (All-head P y ys those)
    (sym (append_assoc (octets x) (flat_map octets xs) r) ∙ e ∙ append_assoc (octets y) (flat_map octets ys) s) in
    let found = prefix P octets xs ys r s tells (All-tail P x xs these) (All-tail P y ys those) both.1
    (omega arith) in (
      found.0,
      ap (λ (z : A). z ∷ ys) (sym both.0) ∙ ap (λ (zs : List A). x ∷ zs) found.1,
      found.2,
    )

-- what holds of each of the items behind others
behind-all : {A : Type 0} (P : A → Type 0) (xs ys : List A) → All P (xs ++ ys) → All P ys
behind-all P [] ys all = all
behind-all P (x ∷ xs) ys all = behind-all P xs ys (All-tail P x (xs ++ ys) all)

-- Where fewer items are read than were saved, the octets that are left begin with one of them.
pub next-item : {A : Type 0} (P : A → Type 0) (octets : A → List ℕ) (xs ys : List A) (r s : List ℕ)
    → Tells P octets → All P xs → All P ys → flat_map octets xs ++ r ≡ flat_map octets ys ++ s
    → length xs < length ys
    → (y : A) × (others : List A) × P y × (r ≡ octets y ++ (flat_map octets others ++ s))
next-item {A = A} P octets xs ys r s tells these those e less =
    let found = prefix P octets xs ys r s tells these those e (omega arith) in
    go found.0 found.1 found.2
  where
    go : (zs : List A) → ys ≡ xs ++ zs → r ≡ flat_map octets zs ++ s
        → (y : A) × (others : List A) × P y × (r ≡ octets y ++ (flat_map octets others ++ s))
    go [] is read =
        let size = ap (λ (items : List A). length items) is in
        let none = length-append xs [] in
        absurd (omega arith)
    go (z ∷ zs) is read = (
      z,
      zs,
      All-head P z zs (behind-all P xs (z ∷ zs) (subst (λ (items : List A). All P items) is those)),
      read ∙ append_assoc (octets z) (flat_map octets zs) s,
    )

-- Where as many items are read as were saved, they are those, and what was behind them is left.
pub all-read : {A : Type 0} (P : A → Type 0) (octets : A → List ℕ) (xs ys : List A) (r s : List ℕ)
    → Tells P octets → All P xs → All P ys → flat_map octets xs ++ r ≡ flat_map octets ys ++ s
    → length xs ≡ length ys → (xs ≡ ys) × (r ≡ s)
all-read {A = A} P octets xs ys r s tells these those e same =
    let found = prefix P octets xs ys r s tells these those e (omega arith) in
    go found.0 found.1 found.2
  where
    go : (zs : List A) → ys ≡ xs ++ zs → r ≡ flat_map octets zs ++ s → (xs ≡ ys) × (r ≡ s)
    go [] is read = (sym (is ∙ append-nil xs), read)
    go (z ∷ zs) is read =
        let size = ap (λ (items : List A). length items) is in
        let more = length-append xs (z ∷ zs) in
        absurd (omega arith)

-- the two octets of a 16-bit number determine it
pub two-tell : Tells (λ n. n < 2 ^ 16) two_octets
two-tell x y r s few_x few_y e =
    let high : x / 256 % 256 ≡ y / 256 % 256 = cc in
    let low : x % 256 ≡ y % 256 = cc in
    (omega arith, cc)
