-- Vectors of eight lanes: lane k is circuit k.
use Rattle.std.specs.Prelude.{ℕ, ◌<◌, ℤ, Bool, nat_lt, List, [], ◌∷◌, slice_index_or}
use Rattle.std.specs.Int.{cast_signed, is_negative, w16}

-- the number in a lane, and as a signed number
abbrev pub lane : List ℕ → ℕ → ℕ
lane xs k = slice_index_or xs k 0

abbrev pub number : List ℕ → ℕ → ℤ
number xs k = cast_signed w16 (lane xs k)

-- whether it is negative
abbrev pub minus : List ℕ → ℕ → Bool
minus xs k = is_negative (number xs k)

-- whether a flag is set
abbrev pub is_set : ℕ → Bool
is_set n = nat_lt 0 n

-- what holds of each lane
abbrev pub EachLane : (ℕ → Type 0) → Type 0
EachLane P = (k : ℕ) → k < 8 → P k

-- the numbers of a lane, of eight rows
abbrev pub row_at : List (List ℕ) → ℕ → List ℕ
row_at rows k = slice_index_or rows k []

-- a value for each lane
abbrev pub lanes : {A : Type 0} → (ℕ → A) → List A
lanes f = f 0 ∷ f 1 ∷ f 2 ∷ f 3 ∷ f 4 ∷ f 5 ∷ f 6 ∷ f 7 ∷ []
