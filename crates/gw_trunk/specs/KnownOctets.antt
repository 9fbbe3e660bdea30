-- What a reader has given, if it is known what it was to give; and what was read of a client.
use Rattle.std.specs.Prelude.{◌≡◌, ◌++◌, ℕ, List, length, Option, Some, None}

-- what is known to be to come at the start is what was given, and then what is to come now
abbrev pub Gave : Option (List ℕ) → Option (List ℕ) → List ℕ → Type 0
Gave start now octets = (all rest : List ℕ) → start ≡ Some all → now ≡ Some rest → all ≡ octets ++ rest

-- if it is known at the start what is to come, it is known now
abbrev pub StaysKnown : Option (List ℕ) → Option (List ℕ) → Type 0
StaysKnown start now = (all : List ℕ) → start ≡ Some all → now ≡ None → ⊥

-- what came grows by this many octets, which are held behind the others
pub record ReadsMore (came came' held held' : List ℕ) (count : ℕ) : Type 0 where
  pub more : List ℕ
  pub held_is : held' ≡ held ++ more
  pub came_is : came' ≡ came ++ more
  pub count_is : length more ≡ count
