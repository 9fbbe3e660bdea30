-- How long a seizure lasts.
use Rattle.std.proofs.Common.{◌≡◌, ℕ, suc, ◌+◌, ◌<◌, Bool, true, false, cond, List, [], ◌∷◌, ◌++◌, length}
use Rattle.std.proofs.Common.{take, Option, refl, sym, ap, subst, ◌∙◌, arith, append_assoc, append-nil}
use Rattle.std.proofs.lemmas.Bool.{leb-false}
use Rattle.std.specs.Prelude.{fold, map, nat_le, Result, Ok, Err}
use Rattle.q421_line.specs.declared.Role.{Role}
use Rattle.q421_line.specs.declared.State.{State}
use Rattle.q421_line.specs.declared.State.TheVariants.{Idle, Seized, Acked, Answered}
use Rattle.q421_line.specs.declared.State.TheVariants.{ClearedBack, Releasing, Blocked, Fault}
use Rattle.q421_line.specs.declared.LineFault.{LineFault}
use Rattle.q421_line.specs.Recognition.{recognised}
use Rattle.q421_line.specs.Commands.{command_outcome}
use Rattle.q421_line.specs.Signalling.{LineEvent, signal, command, wait, LineState, signalling, at_first, with_count}
use Rattle.q421_line.specs.Signalling.{after_item, after_outcome, with_heard, next_by, after_count}
use Rattle.q421_line.specs.Laws.{IsSeizedThrough, waits, wait_after}
use Rattle.q421_line.specs.Laws.{SeizuresAreReleased, SeizuresAreReleasedByTheHundredth}
use Rattle.q421_line.proofs.Steps.{signalling-push, most-counted}

-- a command keeps the wait
most-obeyed : (line : LineState) (led : Result State LineFault)
    → (after_outcome line led).released_after ≡ line.released_after
most-obeyed line (Ok state) = refl
most-obeyed line (Err fault) = refl

-- the wait of a line after items is the last one among them, or the former one
most-last : (role : Role) (line : LineState) (items : List LineEvent)
    → (fold (after_item role) line items).released_after
    ≡ fold (λ earlier latest. latest) line.released_after (waits items)
most-last role line [] = refl
most-last role line (signal heard ∷ items) =
    most-last role (after_item role line (signal heard)) items
    ∙ ap (λ n. fold (λ earlier latest. latest) n (waits items))
    (most-counted line.released_after (with_heard line.pairs heard) line.state _ line.seized_for)
most-last role line (command asked ∷ items) =
    most-last role (after_item role line (command asked)) items
    ∙ ap (λ n. fold (λ earlier latest. latest) n (waits items))
    (most-obeyed line (command_outcome role asked line.state))
most-last role line (wait signals ∷ items) = most-last role (after_item role line (wait signals)) items

-- so it is the wait in force
pub most-is : (role : Role) (items : List LineEvent) → (signalling role items).released_after ≡ wait_after items
unfolding signalling
most-is role items = most-last role at_first items

-- a line that stays Seized with one more signal: its count rises by one, and has not reached the wait
pub record GoesUp (most seized_for : ℕ) (line : LineState) : Type 0 where
  pub up : line.seized_for ≡ seized_for + 1
  pub below : seized_for + 1 < most
  pub same : line.released_after ≡ most

-- a line that stays Seized through signals does so through each
count-up : (most : ℕ) (pairs : List ℕ) (after : State) (seized_for : ℕ)
    → (after_count most pairs Seized after seized_for).state ≡ Seized
    → GoesUp most seized_for (after_count most pairs Seized after seized_for)
count-up most pairs Seized seized_for stays = go (nat_le most (seized_for + 1)) refl stays
  where
    go : (released : Bool) → nat_le most (seized_for + 1) ≡ released
        → (cond {A = LineState} released (with_count most pairs Releasing 0)
        (with_count most pairs Seized (seized_for + 1))).state ≡ Seized
        → GoesUp most seized_for (cond {A = LineState} released (with_count most pairs Releasing 0)
        (with_count most pairs Seized (seized_for + 1)))
    go true is stays = cc
    go false is stays =
        record { up = refl; below = omega (arith, leb-false most (seized_for + 1) is); same = refl }
count-up most pairs Idle seized_for stays = cc
count-up most pairs Acked seized_for stays = cc
count-up most pairs Answered seized_for stays = cc
count-up most pairs ClearedBack seized_for stays = cc
count-up most pairs Releasing seized_for stays = cc
count-up most pairs Blocked seized_for stays = cc
count-up most pairs Fault seized_for stays = cc

-- the same for a state that is known to be Seized
count-up-from : (most : ℕ) (pairs : List ℕ) (before after : State) (seized_for : ℕ) → before ≡ Seized
    → (after_count most pairs before after seized_for).state ≡ Seized
    → GoesUp most seized_for (after_count most pairs before after seized_for)
count-up-from most pairs before after seized_for was = subst
    (λ (b : State). (after_count most pairs b after seized_for).state ≡ Seized
    → GoesUp most seized_for (after_count most pairs b after seized_for))
    (sym was) (count-up most pairs after seized_for)

-- the same for a line
signal-up : (role : Role) (items : List LineEvent) (heard : Option ℕ) → (signalling role items).state ≡ Seized
    → (signalling role (items ++ signal heard ∷ [])).state ≡ Seized
    → GoesUp (signalling role items).released_after (signalling role items).seized_for
    (signalling role (items ++ signal heard ∷ []))
signal-up role items heard was stays =
    let line : LineState = signalling role items in
    let pairs : List ℕ = with_heard line.pairs heard in
    let push = signalling-push role items (signal heard) in
    subst (λ z. GoesUp line.released_after line.seized_for z) (sym push)
    (count-up-from line.released_after pairs line.state (next_by role line.state (recognised pairs)) line.seized_for was
    (sym (ap (λ (z : LineState). z.state) push) ∙ stays))

-- a line that stays Seized through signals does so through the first
first-up : (role : Role) (items : List LineEvent) (heard : Option ℕ) (signals : List (Option ℕ))
    → IsSeizedThrough role items (heard ∷ signals)
    → GoesUp (signalling role items).released_after (signalling role items).seized_for
    (signalling role (items ++ signal heard ∷ []))
first-up role items heard signals through =
    let none : items ++ [] ≡ items = append-nil items in
    signal-up role items heard (ap (λ z. (signalling role z).state) (sym none) ∙ through 0 (omega arith))
    (through 1 (omega arith))

-- and the others do
others-through : (role : Role) (items : List LineEvent) (heard : Option ℕ) (signals : List (Option ℕ))
    → IsSeizedThrough role items (heard ∷ signals) → IsSeizedThrough role (items ++ signal heard ∷ []) signals
others-through role items heard signals through count within =
    ap (λ z. (signalling role z).state) (append_assoc items (signal heard ∷ []) (map signal (take count signals)))
    ∙ through (suc count) (omega arith)

-- so the count of a line that stays Seized through signals has not reached the wait at the last of them
signals-up : (role : Role) (items : List LineEvent) (heard : Option ℕ) (signals : List (Option ℕ))
    → IsSeizedThrough role items (heard ∷ signals)
    → (signalling role items).seized_for + length (heard ∷ signals) < (signalling role items).released_after
signals-up role items heard [] through =
    let one = first-up role items heard [] through in
    let below = one.below in omega arith
signals-up role items heard (next ∷ signals) through =
    let one = first-up role items heard (next ∷ signals) through in
    let up = one.up in
    let same = one.same in
    let rest = signals-up role (items ++ signal heard ∷ []) next signals
    (others-through role items heard (next ∷ signals) through) in
    omega arith

-- so no seizure lasts as many signals as the wait has
pub seizure-short : SeizuresAreReleased
seizure-short role items [] through = omega arith
seizure-short role items (heard ∷ signals) through =
    let up = signals-up role items heard signals through in
    let is = most-is role items in omega arith

-- nor a hundred, if no wait was given
pub seizure-hundredth : SeizuresAreReleasedByTheHundredth
seizure-hundredth role items signals none through =
    let is : wait_after items ≡ 100 = ap (λ all. fold (λ earlier latest. latest) 100 all) none in
    let short = seizure-short role items signals through in omega arith
