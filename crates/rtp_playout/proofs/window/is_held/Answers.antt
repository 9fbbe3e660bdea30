use Rattle.std.proofs.Common.{◌≡◌, ◌+◌, ◌++◌, ℕ, List, Option, None, length, is_some, true, slice_index_or, arith}
use Rattle.std.proofs.lemmas.List.{get_or-append-add}
use Rattle.rtp_playout.proofs.window.is_held.Goals as goal

-- what is held in the second slice
held_behind : (front back items : List (Option ℕ)) (k : ℕ) → front ++ back ≡ items
    → is_some (slice_index_or back k None) ≡ true → is_some (slice_index_or items (length front + k) None) ≡ true
held_behind front back items k parts held = cc (get_or-append-add front back k None)

pub returns-else-any_held-clause-some : goal.returns-else-any_held-clause-some
returns-else-any_held-clause-some c = λ told.
    let held = c.any_held-else-any_held.ensures.some told in
    let after = held.1 in
    let before = held.2 in
    let from = c.saturating_sub.ensures in
    let end = c.saturating_sub-else-any_held.ensures in
    let min = c.min-end.ensures in
    let sum = c.saturating_add.ensures in (
      length c.as_slices.result.0.now + held.0,
      omega arith,
      omega arith,
      held_behind c.as_slices.result.0.now c.as_slices.result.1.now c.args.window.now.items held.0
          c.as_slices.ensures held.3,
    )
