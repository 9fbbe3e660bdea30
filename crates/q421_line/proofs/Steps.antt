-- A line with a history, one more signal, command or wait.
use Rattle.std.proofs.Common.{◌≡◌, ℕ, ◌+◌, Bool, true, false, cond, ◌&&◌, List, [], ◌∷◌, ◌++◌, Option}
use Rattle.std.proofs.Common.{refl, sym, ap, subst, ◌∙◌}
use Rattle.std.specs.Prelude.{nat_le, Ok, Err}
use Rattle.std.proofs.lemmas.List.Sums.{fold_push}
use Rattle.q421_line.specs.declared.Role.{Role}
use Rattle.q421_line.specs.declared.State.{State}
use Rattle.q421_line.specs.declared.State.TheVariants.{Seized, Releasing}
use Rattle.q421_line.specs.declared.Cmd.{Cmd}
use Rattle.q421_line.specs.declared.LineFault.{LineFault}
use Rattle.q421_line.specs.declared.recognition.Recognition.{Recognition}
use Rattle.q421_line.specs.declared.signalling.Line.{Line}
use Rattle.q421_line.specs.Recognition.{recognised}
use Rattle.q421_line.specs.Commands.{command_outcome}
use Rattle.q421_line.specs.Signalling.{LineEvent, signal, command, wait, LineState, signalling, at_first, with_count}
use Rattle.q421_line.specs.Signalling.{after_item, after_outcome, with_heard, next_by, after_count, is_seized}
use Rattle.q421_line.specs.Line.{HasHeard, HasHistory}

-- one item more
pub signalling-push : (role : Role) (items : List LineEvent) (item : LineEvent)
    → signalling role (items ++ item ∷ []) ≡ after_item role (signalling role items) item
unfolding signalling
signalling-push role items item = fold_push (after_item role) at_first items item

-- a signal keeps the known pairs that it made
pairs-counted : (most : ℕ) (pairs : List ℕ) (before after : State) (seized_for : ℕ)
    → (after_count most pairs before after seized_for).pairs ≡ pairs
pairs-counted most pairs before after seized_for =
    go (is_seized before && is_seized after) (nat_le most (seized_for + 1))
  where
    go : (stays released : Bool) → ◌≡◌ {A = List ℕ} (cond {A = LineState} stays
        (cond released (with_count most pairs Releasing 0) (with_count most pairs Seized (seized_for + 1)))
        (with_count most pairs after 0)).pairs pairs
    go true true = refl
    go true false = refl
    go false released = refl

-- and the wait
pub most-counted : (most : ℕ) (pairs : List ℕ) (before after : State) (seized_for : ℕ)
    → (after_count most pairs before after seized_for).released_after ≡ most
most-counted most pairs before after seized_for =
    go (is_seized before && is_seized after) (nat_le most (seized_for + 1))
  where
    go : (stays released : Bool) → ◌≡◌ {A = ℕ} (cond {A = LineState} stays
        (cond released (with_count most pairs Releasing 0) (with_count most pairs Seized (seized_for + 1)))
        (with_count most pairs after 0)).released_after most
    go true true = refl
    go true false = refl
    go false released = refl

-- the line has the history with the signal
pub stands-signal : (old : Line) (role : Role) (items : List LineEvent) (heard : Option ℕ) (recognition : Recognition)
    (next state : State) (seized_for : ℕ)
    → HasHistory old role items
    → HasHeard recognition (with_heard (signalling role items).pairs heard)
    → next ≡ next_by old.role old.state recognition.recognised
    → state ≡ (after_count old.released_after (with_heard (signalling role items).pairs heard) old.state next
    old.seized_for).state
    → seized_for ≡ (after_count old.released_after (with_heard (signalling role items).pairs heard) old.state next
    old.seized_for).seized_for
    → HasHistory (record old { state = state; seized_for = seized_for; recognition = recognition }) role
    (items ++ signal heard ∷ [])
stands-signal old role items heard recognition next state seized_for stands has_heard is_next is_state is_seized_for =
    let before : LineState = signalling role items in
    let pairs : List ℕ = with_heard before.pairs heard in
    let next_is : next ≡ next_by role before.state (recognised pairs) = is_next
    ∙ ap (λ r. next_by r old.state recognition.recognised) stands.role_is
    ∙ ap (λ s. next_by role s recognition.recognised) stands.state_is
    ∙ ap (λ p. next_by role before.state p) has_heard.recognised_is in
    let most : ℕ = before.released_after in
    let same : after_count old.released_after pairs old.state next old.seized_for
    ≡ after_item role before (signal heard)
    = ap (λ n. after_count n pairs old.state next old.seized_for) stands.released_after_is
    ∙ ap (λ s. after_count most pairs s next old.seized_for) stands.state_is
    ∙ ap (λ s. after_count most pairs before.state s old.seized_for) next_is
    ∙ ap (λ n. after_count most pairs before.state (next_by role before.state (recognised pairs)) n)
    stands.seized_for_is in
    let whole : after_count old.released_after pairs old.state next old.seized_for
    ≡ signalling role (items ++ signal heard ∷ [])
    = same ∙ sym (signalling-push role items (signal heard)) in
    let kept : pairs ≡ (signalling role (items ++ signal heard ∷ [])).pairs
    = sym (pairs-counted old.released_after pairs old.state next old.seized_for)
    ∙ ap (λ (z : LineState). z.pairs) whole in
    record {
      role_is = stands.role_is;
      state_is = is_state ∙ ap (λ (z : LineState). z.state) whole;
      seized_for_is = is_seized_for ∙ ap (λ (z : LineState). z.seized_for) whole;
      released_after_is = sym (most-counted old.released_after pairs old.state next old.seized_for)
          ∙ ap (λ (z : LineState). z.released_after) whole;
      heard = subst (λ known. HasHeard recognition known) kept has_heard;
    }

-- what a command leads to, by the fields
outcome-is : (old : Line) (role : Role) (items : List LineEvent) (asked : Cmd) → HasHistory old role items
    → command_outcome role asked (signalling role items).state ≡ command_outcome old.role asked old.state
outcome-is old role items asked stands =
    ap (λ s. command_outcome role asked s) (sym stands.state_is)
    ∙ ap (λ r. command_outcome r asked old.state) (sym stands.role_is)

-- the line has the history with an accepted command
pub stands-obeyed : (old : Line) (role : Role) (items : List LineEvent) (asked : Cmd) (state : State)
    → HasHistory old role items
    → Ok state ≡ command_outcome old.role asked old.state
    → HasHistory (record old { state = state; seized_for = 0 }) role (items ++ command asked ∷ [])
stands-obeyed old role items asked state stands is_outcome =
    let before : LineState = signalling role items in
    let whole : with_count before.released_after before.pairs state 0 ≡ signalling role (items ++ command asked ∷ [])
    = sym (signalling-push role items (command asked)
    ∙ ap (λ z. after_outcome before z) (outcome-is old role items asked stands ∙ sym is_outcome)) in
    record {
      role_is = stands.role_is;
      state_is = ap (λ (z : LineState). z.state) whole;
      seized_for_is = ap (λ (z : LineState). z.seized_for) whole;
      released_after_is = stands.released_after_is ∙ ap (λ (z : LineState). z.released_after) whole;
      heard = subst (λ known. HasHeard old.recognition known) (ap (λ (z : LineState). z.pairs) whole) stands.heard;
    }

-- the unchanged line has the history with a refused command
pub stands-refused : (old : Line) (role : Role) (items : List LineEvent) (asked : Cmd) (fault : LineFault)
    → HasHistory old role items
    → Err fault ≡ command_outcome old.role asked old.state → HasHistory old role (items ++ command asked ∷ [])
stands-refused old role items asked fault stands is_outcome =
    let before : LineState = signalling role items in
    let whole : before ≡ signalling role (items ++ command asked ∷ [])
    = sym (signalling-push role items (command asked)
    ∙ ap (λ z. after_outcome before z) (outcome-is old role items asked stands ∙ sym is_outcome)) in
    record {
      role_is = stands.role_is;
      state_is = stands.state_is ∙ ap (λ (z : LineState). z.state) whole;
      seized_for_is = stands.seized_for_is ∙ ap (λ (z : LineState). z.seized_for) whole;
      released_after_is = stands.released_after_is ∙ ap (λ (z : LineState). z.released_after) whole;
      heard = subst (λ known. HasHeard old.recognition known) (ap (λ (z : LineState). z.pairs) whole) stands.heard;
    }

-- the line has the history with the wait
pub stands-waiting : (old : Line) (role : Role) (items : List LineEvent) (signals : ℕ) → HasHistory old role items
    → HasHistory (record old { released_after = signals }) role (items ++ wait signals ∷ [])
stands-waiting old role items signals stands =
    let whole = sym (signalling-push role items (wait signals)) in
    record {
      role_is = stands.role_is;
      state_is = stands.state_is ∙ ap (λ (z : LineState). z.state) whole;
      seized_for_is = stands.seized_for_is ∙ ap (λ (z : LineState). z.seized_for) whole;
      released_after_is = ap (λ (z : LineState). z.released_after) whole;
      heard = subst (λ known. HasHeard old.recognition known) (ap (λ (z : LineState). z.pairs) whole) stands.heard;
    }
