-- Counts, one octet more.
use Rattle.g704_crc4.proofs.Common.{◌≡◌, ℕ, suc, ◌+◌, ◌<◌, ◌≤◌, List, [], ◌∷◌, ◌++◌, length, take, drop, get_or, refl}
use Rattle.g704_crc4.proofs.Common.{common_steps, sym, arith, take-suc, drop_all, counts_with, event_of, counts_after}
use Rattle.g704_crc4.specs.declared.checking.Counts.{Counts}

-- The counts take the next octet.
pub count-more : (octets : List ℕ) (i : ℕ) (counts : Counts) → i < length octets
    → counts_after (counts_with counts (event_of (take i octets ++ get_or octets i 0 ∷ []))) (take (i + 1) octets)
    (drop (i + 1) octets) ≡ counts_after counts (take i octets) (drop i octets)
unfolding counts_after
count-more octets i counts lt = grind (arith, common_steps)

-- The octets before one, and that one.
pub next-octet : (octets : List ℕ) (i : ℕ) → i < length octets
    → take i octets ++ get_or octets i 0 ∷ [] ≡ take (i + 1) octets
next-octet octets i lt = let one : i + 1 ≡ suc i = omega arith in rw one (sym (take-suc octets i 0 lt))

-- All octets were counted.
pub count-all : (octets : List ℕ) (i : ℕ) (counts : Counts) → length octets ≤ i
    → counts_after counts (take i octets) (drop i octets) ≡ counts
unfolding counts_after
count-all octets i counts le = rw (drop_all i octets le) refl
