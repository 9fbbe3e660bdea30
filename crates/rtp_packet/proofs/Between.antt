-- Octets between two places.
use Rattle.std.proofs.lemmas.Grind.{common_steps}
use Rattle.std.proofs.Common.{◌≡◌, ◌+◌, ◌-◌, ◌<◌, ◌≤◌, ℕ, zero, suc, List, [], ◌∷◌, ◌++◌, length, take, drop}
use Rattle.std.proofs.Common.{slice_index, refl, ap, ◌∙◌, arith}
use Rattle.std.specs.List.{All}
use Rattle.std.proofs.lemmas.List.{take-append-drop, drop-drop, take_at, drop_at}
use Rattle.std.proofs.lemmas.List.Elements.{All-head, All-tail}
use Rattle.rtp_packet.specs.Read.{between}

-- the items of a list, and the default past its end, are octets
abbrev pub AreOctets : List ℕ → Type 0
AreOctets o = (i : ℕ) → slice_index o i < 256

-- a list of octets is one, also past its end
pub all-octets : (o : List ℕ) → All (λ octet. octet < 256) o → AreOctets o
all-octets [] each i = omega arith
all-octets (x ∷ xs) each zero = All-head (λ octet. octet < 256) x xs each
all-octets (x ∷ xs) each (suc i) = all-octets xs (All-tail (λ octet. octet < 256) x xs each) i

-- the octets from a place, in two parts
pub between-join : (a b : ℕ) (o : List ℕ) → a ≤ b → between a b o ++ drop b o ≡ drop a o
between-join a b o h = grind (arith, drop-drop (b - a) a o, take-append-drop (b - a) (drop a o))

-- how many they are
pub length-between : (a b : ℕ) (o : List ℕ) → b ≤ length o → length (between a b o) ≡ b - a
length-between a b o h = grind (arith, common_steps)

-- the first of two lists that begin at a place
pub between-first : (a b : ℕ) (o xs ys : List ℕ) → drop a o ≡ xs ++ ys → b - a ≡ length xs → between a b o ≡ xs
between-first a b o xs ys there span =
    ap (λ (k : ℕ). take k (drop a o)) span ∙ ap (take (length xs)) there ∙ take_at xs ys (length xs) refl

-- the second of two lists that begin at a place
pub drop-second : (a b : ℕ) (o xs ys : List ℕ) → drop a o ≡ xs ++ ys → b ≡ a + length xs → drop b o ≡ ys
drop-second a b o xs ys there end = cc (drop-drop (length xs) a o, drop_at xs ys (length xs) refl)
