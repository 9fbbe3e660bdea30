-- What a store of fixed size holds, and what a write does to it.
use Rattle.std.specs.Prelude.{◌≡◌, ◌⊎◌, ◌+◌, ◌≤◌, ℕ, Bool, true, List, ◌++◌, length, take, drop}
use Rattle.std.specs.Prelude.{Option, Some, None, Result, MatchResult}

-- what was known is known, and nothing else is; this holds of what there was and what there is
abbrev pub AreKnown : {X : Type 0} → Option X → Option X → (X → X → Type 0) → Type 0
AreKnown None None P = Unit {0}
AreKnown (Some old) (Some new) P = P old new
AreKnown _ _ P = ⊥

-- a fact about what there was and what there is, if it is known
pub record WhereKnown {X : Type 0} (old new : Option X) (P : X → X → Type 0) : Type 0 where
  pub fact : AreKnown old new P

-- these octets are in their place from an octet on, and all others are as they were
pub record IsWrittenAt (at : ℕ) (octets old new : List ℕ) : Type 0 where
  pub is : new ≡ take at old ++ (octets ++ drop (at + length octets) old)

-- octets were written there, all of them; or, if the write failed, the first ones
abbrev pub WritesAt : {F : Type 0} → ℕ → List ℕ → Result (Unit {0}) F → List ℕ → List ℕ → Type 0
WritesAt at octets result old new = MatchResult result (λ _. IsWrittenAt at octets old new)
    (λ _. (n : ℕ) × (n ≤ length octets) × IsWrittenAt at (take n octets) old new)

-- octets were written at the front, all of them; or, if the write failed, all or none
abbrev pub WritesHead : {F : Type 0} → List ℕ → Result (Unit {0}) F → List ℕ → List ℕ → Type 0
WritesHead octets result old new = MatchResult result (λ _. IsWrittenAt 0 octets old new)
    (λ _. (new ≡ old) ⊎ IsWrittenAt 0 octets old new)

-- a write tells whether one failed, this one or an earlier one
abbrev pub TellsFault : {F : Type 0} → Bool → Bool → Result (Unit {0}) F → Type 0
TellsFault failed failed' result = MatchResult result (λ _. failed' ≡ failed) (λ _. failed' ≡ true)
