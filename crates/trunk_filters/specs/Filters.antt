-- What a filter returns that is used or not (module `switches`), or begins within a multiframe (`phased`).
use Rattle.std.specs.Prelude.{◌≡◌, ◌++◌, ℕ, Bool, true, false, List, length, replicate}

-- What is returned for octets by a filter, if it is used; otherwise the octets as they came.
abbrev pub ReturnsIf : Bool → (List ℕ → List ℕ → Type 0) → List ℕ → List ℕ → Type 0
ReturnsIf true Returns octets returned = Returns octets returned
ReturnsIf false Returns octets returned = returned ≡ octets

-- What a filter returns behind this number of octets of ones, without what it returns for the ones.
abbrev pub ReturnsBehind : ℕ → (List ℕ → List ℕ → Type 0) → List ℕ → List ℕ → Type 0
ReturnsBehind place Returns octets returned = (first : List ℕ) × (length first ≡ place)
    × Returns (replicate place 255 ++ octets) (first ++ returned)
