-- Circuits that are reported one after another.
use Rattle.std.proofs.Common.{◌≡◌, ◌≤◌, ◌+◌, ◌-◌, ◌++◌, ◌∙◌, ℕ, zero, suc, Bool, true, false, List, [], ◌∷◌}
use Rattle.std.proofs.Common.{length, get_or, set, refl, sym, ap, arith, inl, inr, append_assoc, append-nil}
use Rattle.std.proofs.lemmas.List.{get_or_default, get_or-set_same, get_or-set_other}
use Rattle.std.proofs.lemmas.Bool.{cases_eq}
use Rattle.gw_circuit.specs.declared.Status.{Status}
use Rattle.gw_switch.specs.declared.Alarms.{Alarms}
use Rattle.gw_records.specs.Records.{Record}
use Rattle.gw_tell.specs.declared.gateway_status.GatewayStatus.{GatewayStatus}
use Rattle.std.proofs.lemmas.List.Concat.{flat_map-append}
use Rattle.std.specs.List.{flat_map}
use Rattle.gw_tell.specs.Lines.{alarms_line, row_line, event_line, number_line, spaced}
use Rattle.gw_tell.specs.Reports.{no_status, of_circuit, counted_as, RowStep, RowSteps, AlarmsStep}
use Rattle.gw_tell.specs.Seizures.{AreCounted}
use Rattle.gw_tell.specs.Reports.{row_lines, Changes, are_due, place_after, counts_lines, due_lines, told_line}
use Rattle.gw_tell.specs.Counts.{counts_at, no_counts}
use Rattle.gw_tell.specs.declared.counts.DatagramCounts.{DatagramCounts}

-- What was reported last of a circuit is what it is, but for its counts.
pub one_is_true : (due : Bool) (c : ℕ) (was is told : Status) (text text' : List ℕ)
    → RowStep due c was is told text text' → told ≡ counted_as is told
one_is_true due c was is told text text' (inl s) = rw s.1 refl
one_is_true true c was is told text text' (inr s) = rw (s.1, s.0) refl
one_is_true false c was is told text text' (inr s) = rw s.1 s.0

-- That of each of the first circuits is.
pub all_are_true : (due : Bool) (was is told : List Status) (text text' : List ℕ) (n : ℕ)
    → RowSteps due was is told text text' n → (c : ℕ) → 1 ≤ c → c ≤ n
    → of_circuit told c ≡ counted_as (of_circuit is c) (of_circuit told c)
unfolding RowSteps
all_are_true due was is told text text' zero steps = λ c some most. absurd (omega arith)
all_are_true due was is told text text' (suc n) (between, steps, step) = λ c some most. elim (cases_eq c (suc n)) [
  | inl e ↦ rw e (one_is_true due (suc n) _ _ _ between text' step)
  | inr other ↦ all_are_true due was is told text between n steps c some (omega arith)
]

-- What is reported of circuits goes behind the text.
pub rows_go_behind : (due : Bool) (was is told : List Status) (text text' : List ℕ) (n : ℕ)
    → RowSteps due was is told text text' n → (lines : List ℕ) × (text' ≡ text ++ lines)
unfolding RowSteps
rows_go_behind due was is told text text' zero steps = ([], steps ∙ sym (append-nil text))
rows_go_behind due was is told text text' (suc n) (between, steps, step) =
    let before = rows_go_behind due was is told text between n steps in elim step [
      | inl s ↦ (
        before.0 ++ row_line (suc n) (of_circuit is (suc n)),
        s.2 ∙ ap (λ (xs : List ℕ). xs ++ row_line (suc n) (of_circuit is (suc n))) before.1
            ∙ append_assoc text before.0 (row_line (suc n) (of_circuit is (suc n))),
      )
      | inr s ↦ (before.0, s.2 ∙ before.1)
    ]

-- .. and of the alarms.
pub alarms_go_behind : (was is : Alarms) (text text' : List ℕ) → AlarmsStep was is text text'
    → (lines : List ℕ) × (text' ≡ text ++ lines)
alarms_go_behind was is text text' (inl s) = (alarms_line is, s.1)
alarms_go_behind was is text text' (inr s) = ([], s.1 ∙ sym (append-nil text))

-- What is reported of a change goes behind the text.
pub changes_go_behind : {due : Bool} {was is told : GatewayStatus} {counts counts' : List DatagramCounts}
    {text text' : List ℕ} → Changes due was is told counts counts' text text'
    → (lines : List ℕ) × (text' ≡ text ++ lines)
changes_go_behind {due = due} {was = was} {is = is} {told = told} {counts = counts} {text = text} changes =
    let a = alarms_go_behind was.alarms is.alarms text changes.between changes.alarms in
    let b = rows_go_behind due was.rows is.rows told.rows changes.between changes.behind 30 changes.rows in (
      a.0 ++ b.0 ++ due_lines due counts,
      changes.counts_are
          ∙ ap (λ (xs : List ℕ). xs ++ due_lines due counts) (b.1 ∙ ap (λ (xs : List ℕ). xs ++ b.0) a.1)
          ∙ simp append_assoc,
    )

-- The first circuits are reported so, whatever was reported last of the others.
pub steps_alike : (due : Bool) (was is told told' : List Status) (text text' : List ℕ) (n : ℕ)
    → ((c : ℕ) → 1 ≤ c → c ≤ n → of_circuit told' c ≡ of_circuit told c)
    → RowSteps due was is told text text' n → RowSteps due was is told' text text' n
unfolding RowSteps
steps_alike due was is told told' text text' zero same steps = steps
steps_alike due was is told told' text text' (suc n) same (between, steps, step) = (
  between,
  steps_alike due was is told told' text between n (λ c a b. same c a (omega arith)) steps,
  rw (same (suc n) (omega arith) (omega arith)) step,
)

-- Before the first one nothing is reported.
pub none_yet : (due : Bool) (was is told : List Status) (text : List ℕ) → RowSteps due was is told text text 0
unfolding RowSteps
none_yet due was is told text = refl

-- One more circuit is reported.
pub one_more : (due : Bool) (was is told : List Status) (text between text' : List ℕ) (number : ℕ) (new : Status)
    → 1 ≤ number → number ≤ length told → RowSteps due was is told text between (number - 1)
    → RowStep due number (of_circuit was number) (of_circuit is number) new between text'
    → RowSteps due was is (set told (number - 1) new) text text' (number + 1 - 1)
unfolding RowSteps
one_more due was is told text between text' number new some most steps step =
    let told' = set told (number - 1) new in
    let e : number ≡ suc (number - 1) = omega arith in
    let e' : number + 1 - 1 ≡ suc (number - 1) = omega arith in
    let here : of_circuit told' number ≡ new = get_or-set_same told (number - 1) new no_status (omega arith) in
    let there : (c : ℕ) → 1 ≤ c → c ≤ number - 1 → of_circuit told' c ≡ of_circuit told c =
    λ c a b. get_or-set_other told (number - 1) (c - 1) new no_status (λ q. omega arith) in
    rw e' (
      between,
      steps_alike due was is told told' text between (number - 1) there steps,
      rw (← e, here) step,
    )

-- Before the first line there is none.
pub no_line_yet : (rows : List Status) → row_lines rows 0 ≡ []
unfolding row_lines
no_line_yet rows = refl

-- One more line of a circuit.
pub one_more_line : (rows : List Status) (number : ℕ) → 1 ≤ number
    → row_lines rows (number + 1 - 1) ≡ row_lines rows (number - 1) ++ row_line number (of_circuit rows number)
unfolding row_lines
one_more_line rows number some =
    let e : number ≡ suc (number - 1) = omega arith in
    let e' : number + 1 - 1 ≡ suc (number - 1) = omega arith in
    rw (e', ← e) refl

-- Behind the lines of the circuits so far stands that of the next one.
pub line_on : (rows : List Status) (number c i : ℕ) (d : Status) (first text text' : List ℕ)
    → 1 ≤ number → number ≤ length rows → c ≡ number → i ≡ number
    → text ≡ first ++ row_lines rows (number - 1) → text' ≡ text ++ row_line c (get_or rows (i - 1) d)
    → text' ≡ first ++ row_lines rows (number + 1 - 1)
line_on rows number c i d first text text' some most c_is i_is before after =
    let here : get_or rows (number - 1) d ≡ of_circuit rows number =
    get_or_default rows (number - 1) d no_status (omega arith) in
    after ∙ rw (before, c_is, i_is, one_more_line rows number some, here)
    (append_assoc first (row_lines rows (number - 1)) (row_line number (of_circuit rows number)))

-- A line of a word and of numbers in two parts.
pub two_parts : (text word : List ℕ) (xs ys : List ℕ)
    → (((text ++ word) ++ flat_map spaced xs) ++ flat_map spaced ys) ++ 10 ∷ [] ≡ text ++ number_line word (xs ++ ys)
unfolding number_line
two_parts text word xs ys = rw (flat_map-append) (simp append_assoc)

-- Before the first line of counts there is none.
pub no_counts_yet : (all : Bool) (counts : List DatagramCounts) → counts_lines all counts 0 ≡ []
unfolding counts_lines
no_counts_yet all counts = refl

-- Behind the lines of counts so far stands that of the next circuit, if it is told.
pub counts_on : (all : Bool) (counts : List DatagramCounts) (number c i : ℕ) (d : DatagramCounts)
    (first text text' : List ℕ) → 1 ≤ number → number ≤ length counts → c ≡ number → i ≡ number
    → text ≡ first ++ counts_lines all counts (number - 1)
    → text' ≡ text ++ told_line all c (get_or counts (i - 1) d)
    → text' ≡ first ++ counts_lines all counts (number + 1 - 1)
unfolding counts_lines
counts_on all counts number c i d first text text' some most c_is i_is before after =
    let e : number ≡ suc (number - 1) = omega arith in
    let e' : number + 1 - 1 ≡ suc (number - 1) = omega arith in
    let here : get_or counts (number - 1) d ≡ counts_at counts number =
    get_or_default counts (number - 1) d no_counts (omega arith) in
    after ∙ rw (before, c_is, i_is, e', ← e, here)
    (append_assoc first (counts_lines all counts (number - 1)) (told_line all number (counts_at counts number)))

-- The next circuit is reported, by what was read of it.
pub step_on : (due : Bool) (was told is : List Status) (text between text' : List ℕ) (number c i : ℕ)
    (d e new : Status) → 1 ≤ number → number ≤ length told → number ≤ length is → c ≡ number → i ≡ number
    → ((k : ℕ) → number ≤ k → of_circuit told k ≡ of_circuit was k)
    → RowSteps due was is told text between (number - 1)
    → RowStep due c (get_or told (i - 1) d) (get_or is (i - 1) e) new between text'
    → RowSteps due was is (set told (i - 1) new) text text' (number + 1 - 1)
step_on due was told is text between text' number c i d e new some most fits c_is i_is rest steps step =
    let one : get_or told (number - 1) d ≡ of_circuit was number =
    get_or_default told (number - 1) d no_status (omega arith) ∙ rest number (omega arith) in
    let now : get_or is (number - 1) e ≡ of_circuit is number =
    get_or_default is (number - 1) e no_status (omega arith) in
    rw i_is (one_more due was is told text between text' number new some most steps
    (rw (i_is, one, now, c_is) at step))

-- The circuits behind it are as they were.
pub rest_on : (was told : List Status) (number i : ℕ) (new : Status) → 1 ≤ number → i ≡ number
    → ((k : ℕ) → number ≤ k → of_circuit told k ≡ of_circuit was k)
    → (k : ℕ) → number + 1 ≤ k → of_circuit (set told (i - 1) new) k ≡ of_circuit was k
rest_on was told number i new some i_is rest = λ k more.
    get_or-set_other told (i - 1) (k - 1) new no_status (λ q. omega arith) ∙ rest k (omega arith)

-- A seizure is counted alike by what a circuit is and by what is reported of it, which is that but for the counts.
pub counted_alike : (counts counts' : List ℕ) (was is told : List Status) → AreCounted counts was is counts'
    → ((c : ℕ) → 1 ≤ c → c ≤ 30 → of_circuit told c ≡ counted_as (of_circuit is c) (of_circuit told c))
    → AreCounted counts was told counts'
counted_alike counts counts' was is told counted alike = λ c some most.
    let e : (of_circuit told c).state ≡ (of_circuit is c).state =
    ap (λ (s : Status). s.state) (alike c some most) in
    rw e (counted c some most)
