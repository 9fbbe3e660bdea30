-- How often the lines were seized (module `seizures`).
use Rattle.std.specs.Prelude.{◌≡◌, ◌≤◌, ◌+◌, ◌-◌, ℕ, List, [], ◌∷◌, Bool, true, false, if◌then◌else◌}
use Rattle.std.specs.Prelude.{slice_index_or}
use Rattle.q421_line.specs.declared.State.{State}
use Rattle.q421_line.specs.declared.State.TheVariants.{Idle, Seized, Acked}
use Rattle.gw_circuit.specs.declared.Status.{Status}
use Rattle.gw_records.specs.Streams.{at_most}
use Rattle.gw_tell.specs.Reports.{of_circuit}

-- a line was seized: from idle it is seized or, at the end that is seized, acknowledged (ITU-T Q.421)
abbrev pub is_seizure : State → State → Bool
is_seizure Idle Seized = true
is_seizure Idle Acked = true
is_seizure _ _ = false

-- the count of a circuit, of those of circuits 1 to 30
abbrev pub count_of : List ℕ → ℕ → ℕ
count_of counts circuit = slice_index_or counts (circuit - 1) 0

-- no circuit was seized
abbrev pub no_seizures : List ℕ
no_seizures = 0 ∷ 0 ∷ 0 ∷ 0 ∷ 0 ∷ 0 ∷ 0 ∷ 0 ∷ 0 ∷ 0 ∷
    0 ∷ 0 ∷ 0 ∷ 0 ∷ 0 ∷ 0 ∷ 0 ∷ 0 ∷ 0 ∷ 0 ∷
    0 ∷ 0 ∷ 0 ∷ 0 ∷ 0 ∷ 0 ∷ 0 ∷ 0 ∷ 0 ∷ 0 ∷ []

-- the count of a circuit behind a record, before which it stood so
abbrev pub seizures_after : ℕ → Status → Status → ℕ
seizures_after n was is = if is_seizure was.state is.state then at_most (n + 1) else n

-- each circuit was counted
abbrev pub AreCounted : List ℕ → List Status → List Status → List ℕ → Type 0
AreCounted counts was is counts' = (c : ℕ) → 1 ≤ c → c ≤ 30
    → count_of counts' c ≡ seizures_after (count_of counts c) (of_circuit was c) (of_circuit is c)
