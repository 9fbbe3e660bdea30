use Rattle.std.proofs.Common.{◌++◌, ◌∷◌, ◌-◌, ◌≡◌, ◌∙◌, List, ℕ, length, take, drop, ap, sym, arith}
use Rattle.std.proofs.lemmas.List.{take_all, length-drop}
use Rattle.gw_state.specs.Layout.{mark, summed}
use Rattle.gw_state.proofs.Sums.{inner-of}
use Rattle.gw_state.proofs.loading.inner_of.Goals as goal

pub slice_bounds-result-count : goal.slice_bounds-result-count
slice_bounds-result-count c =
    (inner-of c.args.octets.now c.in_ok-front.front.now c.in_ok-front.ensures.front c.in_ok-front.ensures.begins).0

pub slice_bounds-result-start : goal.slice_bounds-result-start
slice_bounds-result-start c =
    (inner-of c.args.octets.now c.in_ok-front.front.now c.in_ok-front.ensures.front c.in_ok-front.ensures.begins).0

pub returns-clause-inner : goal.returns-clause-inner
returns-clause-inner c =
    let front = c.in_ok-front.front.now in
    let told = inner-of c.args.octets.now front c.in_ok-front.ensures.front c.in_ok-front.ensures.begins in
    let all : take (length front - 5) (drop 5 front) ≡ drop 5 front =
    take_all (length front - 5) (drop 5 front) (omega (arith, length-drop 5 front)) in
    c.in_ok-front.ensures.front
    ∙ ap summed (told.1 ∙ ap (λ (os : List ℕ). mark ++ 1 ∷ os) (sym all))
