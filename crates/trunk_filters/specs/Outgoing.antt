-- What a device was given behind a filter (module `outgoing`).
use Rattle.std.specs.Prelude.{◌≡◌, ◌⊎◌, ◌++◌, ℕ, Bool, true, List, []}

-- the last write was of octets that it took, and all that is still held
abbrev pub WasOffered : (List ℕ → Type 0) → List ℕ → Type 0
WasOffered was_given held = (taken : List ℕ) × was_given (taken ++ held)

-- Or nothing is held, where a filter may return none for octets.
abbrev pub WasOfferedOrNone : Bool → (List ℕ → Type 0) → List ℕ → Type 0
WasOfferedOrNone may_return_none was_given held =
    ((may_return_none ≡ true) × (held ≡ [])) ⊎ WasOffered was_given held

-- the last write to a device failed, or took none of some octets
abbrev pub TookNone : {O : Type 0} → (O → Type 0) → (O → ℕ → Type 0) → O → Type 0
TookNone has_failed has_taken device = has_failed device ⊎ has_taken device 0

-- nothing is held any more, or this is why
abbrev pub HasGone : List ℕ → Type 0 → Type 0
HasGone held why = (held ≡ []) ⊎ why
