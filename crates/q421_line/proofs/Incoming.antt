-- The states of an incoming line.
use Rattle.std.proofs.Common.{◌≢◌, ℕ, Bool, true, false, cond, List, [], ◌∷◌, Option, Some, None, subst, ◌==◌}
use Rattle.std.specs.Prelude.{fold, Result, Ok, Err, IfOk}
use Rattle.q421_line.specs.declared.Role.TheVariants.{Incoming}
use Rattle.q421_line.specs.declared.State.{State}
use Rattle.q421_line.specs.declared.State.TheVariants.{Idle, Seized, Acked, Answered}
use Rattle.q421_line.specs.declared.State.TheVariants.{ClearedBack, Releasing, Blocked, Fault}
use Rattle.q421_line.specs.declared.Cmd.{Cmd}
use Rattle.q421_line.specs.declared.Cmd.TheVariants.{Seize, Clear, Answer, ClearBack, Block, Unblock}
use Rattle.q421_line.specs.declared.LineFault.{LineFault}
use Rattle.q421_line.specs.Recognition.{recognised}
use Rattle.q421_line.specs.Tables.{by_pair, next_state, next_incoming}
use Rattle.q421_line.specs.Commands.{command_outcome}
use Rattle.q421_line.specs.Signalling.{LineEvent, signal, command, wait, LineState, signalling, at_first}
use Rattle.q421_line.specs.Signalling.{after_item, after_outcome}
use Rattle.q421_line.specs.Signalling.{with_heard, next_by, after_count}

-- a state other than Seized and Releasing
abbrev IsOfIncoming : State → Type 0
IsOfIncoming Seized = ⊥
IsOfIncoming Releasing = ⊥
IsOfIncoming state = Unit {0}

-- a row of such states leads to no other
by_pair-of : (at_10 at_11 at_01 at_00 : State) (pair : ℕ) → IsOfIncoming at_10 → IsOfIncoming at_11 → IsOfIncoming at_01
    → IsOfIncoming at_00 → IsOfIncoming (by_pair at_10 at_11 at_01 at_00 pair)
by_pair-of at_10 at_11 at_01 at_00 pair h_10 h_11 h_01 h_00 = go (pair == 2) (pair == 3) (pair == 1)
  where
    go : (is_10 is_11 is_01 : Bool) → IsOfIncoming (cond is_10 at_10 (cond is_11 at_11 (cond is_01 at_01 at_00)))
    go true is_11 is_01 = h_10
    go false true is_01 = h_11
    go false false true = h_01
    go false false false = h_00

-- nor does a pair lead out of them
next-of : (state : State) (pair : ℕ) → IsOfIncoming state → IsOfIncoming (next_incoming state pair)
next-of Idle pair h = by_pair-of Idle Fault Fault Acked pair tt tt tt tt
next-of Acked pair h = by_pair-of Idle Fault Fault Acked pair tt tt tt tt
next-of Answered pair h = by_pair-of Idle Fault Fault Answered pair tt tt tt tt
next-of ClearedBack pair h = by_pair-of Idle Fault Fault ClearedBack pair tt tt tt tt
next-of Blocked pair h = by_pair-of Blocked Blocked Blocked Blocked pair tt tt tt tt
next-of Fault pair h = by_pair-of Idle Fault Fault Fault pair tt tt tt tt
next-of Seized pair h = absurd h
next-of Releasing pair h = absurd h

-- nor does what is recognised, if anything
next_by-of : (state : State) (pair : Option ℕ) → IsOfIncoming state → IsOfIncoming (next_by Incoming state pair)
unfolding next_state
next_by-of state None h = h
next_by-of state (Some pair) h = next-of state pair h

-- nor does the count of a seizure, because there is none
count-of : (most : ℕ) (pairs : List ℕ) (before after : State) (seized_for : ℕ) → IsOfIncoming before
    → IsOfIncoming after → IsOfIncoming (after_count most pairs before after seized_for).state
count-of most pairs Idle after seized_for b a = a
count-of most pairs Acked after seized_for b a = a
count-of most pairs Answered after seized_for b a = a
count-of most pairs ClearedBack after seized_for b a = a
count-of most pairs Blocked after seized_for b a = a
count-of most pairs Fault after seized_for b a = a
count-of most pairs Seized after seized_for b a = absurd b
count-of most pairs Releasing after seized_for b a = absurd b

-- nor does a command
outcome-of : (asked : Cmd) (state : State) → IfOk (command_outcome Incoming asked state) IsOfIncoming
unfolding command_outcome
outcome-of Seize state = tt
outcome-of Clear state = tt
outcome-of Answer Acked = tt
outcome-of Answer ClearedBack = tt
outcome-of Answer state = tt
outcome-of ClearBack Answered = tt
outcome-of ClearBack state = tt
outcome-of Block Idle = tt
outcome-of Block state = tt
outcome-of Unblock Blocked = tt
outcome-of Unblock state = tt

-- obeyed or refused
after-of : (line : LineState) (led : Result State LineFault) → IsOfIncoming line.state → IfOk led IsOfIncoming
    → IsOfIncoming (after_outcome line led).state
after-of line (Ok state) h o = o
after-of line (Err fault) h o = h

-- nor does an item
item-of : (line : LineState) (item : LineEvent) → IsOfIncoming line.state
    → IsOfIncoming (after_item Incoming line item).state
item-of line (signal heard) h =
    let pairs : List ℕ = with_heard line.pairs heard in
    count-of line.released_after pairs line.state _ line.seized_for h (next_by-of line.state (recognised pairs) h)
item-of line (command asked) h =
    after-of line (command_outcome Incoming asked line.state) h (outcome-of asked line.state)
item-of line (wait signals) h = h

-- nor do many
items-of : (line : LineState) (items : List LineEvent) → IsOfIncoming line.state
    → IsOfIncoming (fold (after_item Incoming) line items).state
items-of line [] h = h
items-of line (item ∷ items) h = items-of (after_item Incoming line item) items (item-of line item h)

-- an incoming line is never Seized or Releasing
pub incoming-never : (items : List LineEvent)
    → ((signalling Incoming items).state ≢ Seized) × ((signalling Incoming items).state ≢ Releasing)
unfolding signalling
incoming-never items =
    let h : IsOfIncoming (fold (after_item Incoming) at_first items).state = items-of at_first items tt in
    ((λ is. subst IsOfIncoming is h), (λ is. subst IsOfIncoming is h))
