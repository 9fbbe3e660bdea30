-- One known pair more.
use Rattle.std.proofs.Common.{◌≡◌, ℕ, ◌+◌, ◌<◌, ◌≤◌, min, List, [], ◌∷◌, ◌++◌, true, false}
use Rattle.std.proofs.Common.{Option, Some, refl, ap, ◌∙◌, arith, leb}
use Rattle.std.specs.Prelude.{reverse, replicate, ◌==◌, slice_get}
use Rattle.std.specs.List.{prefix_len}
use Rattle.std.proofs.lemmas.List.{reverse-append}
use Rattle.std.proofs.lemmas.Bool.{eq-eqb, ne_eqb, le-leb, lt-leb}
use Rattle.q421_line.specs.declared.recognition.Recognition.{Recognition}
use Rattle.q421_line.specs.Recognition.{run_of, first_of_ten, recognised}
use Rattle.q421_line.specs.Line.{HasHeard}

-- the last pair is the first from the end
reverse-push : (pairs : List ℕ) (pair : ℕ) → reverse (pairs ++ pair ∷ []) ≡ pair ∷ reverse pairs
reverse-push pairs pair = reverse-append pairs (pair ∷ [])

-- a run of a pair is one longer when the pair comes once more
pub run_of-push : (pair : ℕ) (pairs : List ℕ) → run_of pair (pairs ++ pair ∷ []) ≡ 1 + run_of pair pairs
run_of-push pair pairs = rw (reverse-push pairs pair, eq-eqb pair pair refl) refl

-- no run of a pair ends the list if another is its last
no-run : (pair : ℕ) (backwards : List ℕ) → (slice_get backwards 0 ≡ Some pair → ⊥)
    → prefix_len (λ other. other == pair) backwards ≡ 0
no-run pair [] other = refl
no-run pair (last ∷ backwards) other = rw (ne_eqb last pair (λ same. other (ap Some same))) refl

-- the run restarts
pub run-first : (recognition : Recognition) (pair : ℕ) (pairs : List ℕ) → HasHeard recognition pairs
    → (recognition.latest ≡ Some pair → ⊥) → 1 ≡ min 10 (run_of pair (pairs ++ pair ∷ []))
run-first recognition pair pairs heard other =
    let none = no-run pair (reverse pairs) (λ same. other (heard.latest_is ∙ same)) in
    let more = run_of-push pair pairs in omega arith

-- a pair that nine equal ones follow at least is the first of ten
first-of-enough : (pair : ℕ) (pairs : List ℕ) → 9 ≤ prefix_len (λ other. other == pair) pairs
    → first_of_ten (pair ∷ pairs) ≡ Some pair
first-of-enough pair pairs enough =
    let is_enough : leb 9 (prefix_len (λ other. other == pair) pairs) ≡ true = le-leb 9 _ enough in rw is_enough refl

-- after one more pair, that pair is recognised if its run is ten by then, otherwise the former one
pub recognised-ten : (pair : ℕ) (pairs : List ℕ) → 10 ≡ min 10 (run_of pair (pairs ++ pair ∷ []))
    → recognised (pairs ++ pair ∷ []) ≡ Some pair
unfolding recognised
recognised-ten pair pairs ten =
    let more = run_of-push pair pairs in
    let enough : 9 ≤ run_of pair pairs = omega arith in
    rw (reverse-push pairs pair) (first-of-enough pair (reverse pairs) enough)

-- a pair whose run is not yet ten leaves the pair that was recognised
pub recognised-fewer : (pair run : ℕ) (pairs : List ℕ) → run ≡ min 10 (run_of pair (pairs ++ pair ∷ []))
    → (run ≡ 10 → ⊥) → recognised (pairs ++ pair ∷ []) ≡ recognised pairs
unfolding recognised
recognised-fewer pair run pairs is fewer =
    let more = run_of-push pair pairs in
    let few : leb 9 (run_of pair pairs) ≡ false = lt-leb 9 (run_of pair pairs) (omega arith) in
    rw (reverse-push pairs pair, few) refl

-- the fields with one pair more
pub heard-push : (pair run : ℕ) (pairs : List ℕ) (now : Option ℕ) → run ≡ min 10 (run_of pair (pairs ++ pair ∷ []))
    → now ≡ recognised (pairs ++ pair ∷ [])
    → HasHeard (record { latest = Some pair; run = run; recognised = now }) (pairs ++ pair ∷ [])
heard-push pair run pairs now is_run is_now = record {
  latest_is = rw (reverse-push pairs pair) refl;
  run_is = λ other same. let e : pair ≡ other = cc in rw (← e) is_run;
  recognised_is = is_now;
}

-- ten equal pairs at the end are recognised
pub recognised-replicate : (pairs : List ℕ) (pair : ℕ) → recognised (pairs ++ replicate 10 pair) ≡ Some pair
unfolding recognised
recognised-replicate pairs pair = rw (reverse-append pairs (replicate 10 pair))
    (first-of-enough pair (replicate 9 pair ++ reverse pairs) (rw (eq-eqb pair pair refl) (omega arith)))

-- a pair that does not end ten equal ones leaves what is recognised
pub recognised-short : (pairs : List ℕ) (pair : ℕ) → run_of pair (pairs ++ pair ∷ []) < 10
    → recognised (pairs ++ pair ∷ []) ≡ recognised pairs
recognised-short pairs pair short =
    let run : run_of pair (pairs ++ pair ∷ []) ≡ min 10 (run_of pair (pairs ++ pair ∷ [])) = omega arith in
    recognised-fewer pair (run_of pair (pairs ++ pair ∷ [])) pairs run (λ ten. omega arith)
