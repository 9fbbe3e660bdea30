-- The entries of a history (module `log`), by their kinds.
use Rattle.std.specs.Prelude.{ℕ, zero, suc, Bool, true, false, List, [], ◌∷◌}

-- the datagram of this kind, if it is one
abbrev pub datagrams_of : ℕ → List ℕ → List (List ℕ)
datagrams_of zero octets = octets ∷ []
datagrams_of kind octets = []

-- the flag of this kind, if it is one
abbrev pub flags_of : ℕ → List Bool
flags_of (suc zero) = false ∷ []
flags_of (suc (suc zero)) = true ∷ []
flags_of kind = []
