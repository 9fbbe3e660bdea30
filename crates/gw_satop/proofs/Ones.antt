-- Ones.
use Rattle.std.proofs.Common.{◌≡◌, ℕ, ◌≤◌, replicate, take, drop, ◌∙◌, ap, arith}
use Rattle.std.proofs.lemmas.List.{take-replicate, take_all, length-replicate}

-- The first of this many ones.
pub first_ones : (most size : ℕ) → size ≤ most
    → take size (take most (drop 0 (replicate {A = ℕ} most 255))) ≡ replicate {A = ℕ} size 255
first_ones most size h =
    let all : take most (replicate {A = ℕ} most 255) ≡ replicate {A = ℕ} most 255 =
    take_all most (replicate {A = ℕ} most 255) (omega (arith, length-replicate {A = ℕ})) in
    ap (take size) all ∙ take-replicate size most 255 h
