-- What a reader has given grows by what each read gives.
use Rattle.std.proofs.Common.{◌≡◌, ◌++◌, ℕ, List, Option, Some, None, Result, Bool, refl, take, drop}
use Rattle.std.proofs.Common.{ap, append_assoc, take-append-drop}
use Rattle.std.specs.declared.io.ErrorKind.{ErrorKind}
use Rattle.std.specs.Io.KnownBytes.{Consumes, Keeps}
use Rattle.std.proofs.KnownBytes.{Consumes-trans, Consumes-kept}
use Rattle.gw_trunk.specs.Device.{FoundNone, IsOver}
use Rattle.gw_trunk.specs.KnownOctets.{Gave, StaysKnown, ReadsMore}

-- the two facts as std's one
consumed : (a b : Option (List ℕ)) (octets : List ℕ) → Gave a b octets → StaysKnown a b → Consumes a b octets
consumed None b octets gave known = tt
consumed (Some x) None octets gave known = absurd (known x refl refl)
consumed (Some x) (Some y) octets gave known = gave x y refl refl

-- std's one as the first of the two
gave-consumed : (a b : Option (List ℕ)) (octets : List ℕ) → Consumes a b octets → Gave a b octets
gave-consumed None b octets c all rest e f = cc
gave-consumed (Some x) None octets c all rest e f = absurd c
gave-consumed (Some x) (Some y) octets c all rest e f = cc

-- std's one as the second
known-consumed : (a b : Option (List ℕ)) (octets : List ℕ) → Consumes a b octets → StaysKnown a b
known-consumed None b octets c all e f = cc
known-consumed (Some x) None octets c all e f = c
known-consumed (Some x) (Some y) octets c all e f = cc

-- a read of n octets, which are behind those given before
pub gave-more : (a b c : Option (List ℕ)) (octets more : List ℕ) → Gave a b octets → StaysKnown a b
    → Consumes b c more → Gave a c (octets ++ more)
gave-more a b c octets more gave known read =
    gave-consumed a c _ (Consumes-trans a b c octets more (consumed a b octets gave known) read)

-- .. and what is to come stays known
pub known-more : (a b c : Option (List ℕ)) (octets more : List ℕ) → Gave a b octets → StaysKnown a b
    → Consumes b c more → StaysKnown a c
known-more a b c octets more gave known read =
    known-consumed a c _ (Consumes-trans a b c octets more (consumed a b octets gave known) read)

-- a read that failed
pub gave-kept : (a b c : Option (List ℕ)) (octets : List ℕ) → Gave a b octets → StaysKnown a b → Keeps b c
    → Gave a c octets
gave-kept a b c octets gave known kept =
    gave-consumed a c _ (Consumes-kept a b c octets (consumed a b octets gave known) kept)

-- .. and what is to come stays known
pub known-kept : (a b c : Option (List ℕ)) (octets : List ℕ) → Gave a b octets → StaysKnown a b → Keeps b c
    → StaysKnown a c
known-kept a b c octets gave known kept =
    known-consumed a c _ (Consumes-kept a b c octets (consumed a b octets gave known) kept)

-- More octets came, and are held behind those that were given.
pub held-more : (came came' gave held held' : List ℕ) (count : ℕ) → came ≡ gave ++ held
    → ReadsMore came came' held held' count → came' ≡ gave ++ held'
held-more came came' gave held held' count e r =
    rw (r.held_is, r.came_is, ← append_assoc gave held r.more) (ap (λ (xs : List ℕ). xs ++ r.more) e)

-- The first of the octets held were given.
pub held-passed : (came gave held first : List ℕ) (n : ℕ) → came ≡ gave ++ held → first ≡ take n held
    → came ≡ (gave ++ first) ++ drop n held
held-passed came gave held first n e f =
    rw (f, append_assoc gave (take n held) (drop n held), take-append-drop n held) e

-- What the last read gave stays so.
pub none-kept : (before after : Result ℕ ErrorKind → Type 0) (ended : Bool) → ((read : Result ℕ ErrorKind)
    → before read → after read) → FoundNone before ended → FoundNone after ended
none-kept before after ended kept found = (found.0, kept found.0 found.1, found.2, found.3)

-- .. and whether it was the last
pub over-kept : (before after : Result ℕ ErrorKind → Type 0) → ((read : Result ℕ ErrorKind) → before read
    → after read) → IsOver before → IsOver after
over-kept before after kept over = (over.0, kept over.0 over.1, over.2)
