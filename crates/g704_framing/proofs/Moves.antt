-- Alignments whose positions are counted from further back.
use Rattle.std.proofs.Common.{rules, ◌≡◌, ℕ, suc, ◌+◌, List, [], ◌∷◌, map, Option, refl, arith, zero-add}
use Rattle.g704_framing.proofs.Common.{option_map, AlignmentSpan, later_alignment, moved}

-- counted from the old origin
pub option_map-zero : (o : Option ℕ) → option_map (λ k. 0 + k) o ≡ o
option_map-zero o = search rules

-- counted from one further back than that
pub option_map-suc : (n : ℕ) (o : Option ℕ) → option_map (λ k. suc n + k) o ≡ option_map suc (option_map (λ k. n + k) o)
option_map-suc n o = search rules

-- counted from further back, twice
option_map-add : (m n : ℕ) (o : Option ℕ)
    → option_map (λ k. m + k) (option_map (λ k. n + k) o) ≡ option_map (λ k. (m + n) + k) o
option_map-add m n o = search rules

-- alignments are equal that begin and are lost alike
pub same_alignment : (a b : ℕ) (p q : Option ℕ) → a ≡ b → p ≡ q
    → ◌≡◌ {A = AlignmentSpan} (record { start = a; lost = p }) (record { start = b; lost = q })
same_alignment a b p q e f = cc

-- the same for all alignments of a list, from the old origin
pub map-moved_zero : (ds : List AlignmentSpan) → map (moved 0) ds ≡ ds
map-moved_zero [] = refl
map-moved_zero (d ∷ ds) = cc (same_alignment _ _ _ _ (zero-add d.start) (option_map-zero d.lost), map-moved_zero ds)

-- from one further back
pub map-moved_suc : (n : ℕ) (ds : List AlignmentSpan) → map (moved (suc n)) ds ≡ map later_alignment (map (moved n) ds)
map-moved_suc n [] = refl
map-moved_suc n (d ∷ ds) =
    let h : moved (suc n) d ≡ later_alignment (moved n d)
    = same_alignment _ _ _ _ (omega arith) (option_map-suc n d.lost) in
    let t = map-moved_suc n ds in cc

-- from further back, twice
pub map-moved_add : (m n : ℕ) (ds : List AlignmentSpan) → map (moved m) (map (moved n) ds) ≡ map (moved (m + n)) ds
map-moved_add m n [] = refl
map-moved_add m n (d ∷ ds) =
    let h : moved m (moved n d) ≡ moved (m + n) d = same_alignment _ _ _ _ (omega arith) (option_map-add m n d.lost) in
    let t = map-moved_add m n ds in cc
