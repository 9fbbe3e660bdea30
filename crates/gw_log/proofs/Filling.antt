-- Zeros that are written one behind another.
use Rattle.std.proofs.Common.{◌≡◌, ◌∙◌, ◌≤◌, ◌+◌, ◌-◌, ◌++◌, ℕ, List, length, take, drop, ap, arith, sym}
use Rattle.std.proofs.Common.{append_assoc, take-append-drop}
use Rattle.std.proofs.lemmas.List.{length-append, length-take-le, length-replicate, replicate-append-replicate}
use Rattle.std.proofs.lemmas.List.{take_at, drop_at, drop-drop}
use Rattle.std.specs.Prelude.{replicate}
use Rattle.gw_log.specs.Room.{FillsUpTo, WritesZeros}

-- none yet
pub fills_none : (from : ℕ) (start : List ℕ) → FillsUpTo from from start start
fills_none from start there behind =
    let none : from - from ≡ 0 = omega arith in rw none (sym (take-append-drop from start))

-- .. and more
pub fills_on : (from at len : ℕ) (start old new : List ℕ) → from ≤ at → FillsUpTo from at start old
    → WritesZeros at len old new → FillsUpTo from (at + len) start new
fills_on from at len start old new behind fills w there less =
    let f = fills there behind in
    let first = take from start ++ replicate (at - from) 0 in
    let old_is : old ≡ first ++ drop at start =
    f ∙ sym (append_assoc (take from start) (replicate (at - from) 0) (drop at start)) in
    let count : length first ≡ at = omega (
      arith,
      length-append (take from start) (replicate (at - from) 0),
      length-take-le from start there,
      length-replicate {A = ℕ} (at - from) 0,
      behind,
    ) in
    let front : take at old ≡ first = ap (take at) old_is ∙ take_at first (drop at start) at count in
    let back : drop (at + len) old ≡ drop (at + len) start =
    sym (drop-drop len at old) ∙ ap (drop len) (ap (drop at) old_is ∙ drop_at first (drop at start) at count)
    ∙ drop-drop len at start in
    let zeros : replicate (at - from) 0 ++ replicate len 0 ≡ replicate (at + len - from) 0 =
    replicate-append-replicate {A = ℕ} (at - from) len 0
    ∙ ap (λ n. replicate n 0) (omega (arith, behind)) in
    let written = rw (length-replicate {A = ℕ} len 0) at w.is in
    written ∙ ap (λ (xs : List ℕ). xs ++ (replicate len 0 ++ drop (at + len) old)) front
    ∙ append_assoc (take from start) (replicate (at - from) 0) (replicate len 0 ++ drop (at + len) old)
    ∙ ap (λ (xs : List ℕ). take from start ++ (replicate (at - from) 0 ++ (replicate len 0 ++ xs))) back
    ∙ ap (λ (xs : List ℕ). take from start ++ xs)
    (sym (append_assoc (replicate (at - from) 0) (replicate len 0) (drop (at + len) start)))
    ∙ ap (λ (xs : List ℕ). take from start ++ (xs ++ drop (at + len) start)) zeros
