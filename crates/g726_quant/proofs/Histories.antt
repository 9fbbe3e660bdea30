-- One step more.
use Rattle.std.proofs.Common.{◌≡◌, List, [], ◌∷◌, ◌++◌, sym, ap, ◌∙◌}
use Rattle.std.specs.Prelude.{fold}
use Rattle.std.proofs.lemmas.List.Sums.{fold_push}

-- a state after updates from a start, moved on by one more, is the state after all of them
pub one_more : {State Update : Type 0} (step : State → Update → State) (start old new : State) (updates : List Update)
    (update : Update)
    → old ≡ fold step start updates → new ≡ step old update → new ≡ fold step start (updates ++ update ∷ [])
one_more step start old new updates u e f = f ∙ ap (λ s. step s u) e ∙ sym (fold_push step start updates u)
